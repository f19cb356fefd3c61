-- An `unshelve` opens files as the last `shelve` place shelved them.
use Rattle.std.proofs.Common.{◌≡◌, ℕ, false, List, [], ◌∷◌, ◌++◌, Option, Some, None, Result, Ok, Err, inl, inr, refl, sym, subst}
use Rattle.std.specs.Prelude.{is_none, is_some, unwrap_or}
use Rattle.std.specs.List.{AllByRecursion}
use Rattle.depot_model.specs.depot_path.Path.{printed}
use Rattle.depot_model.specs.depot_path.declared.revision.Wanted.TheVariants.{Head}
use Rattle.depot_model.specs.spec_form.Form.{FormValue}
use Rattle.depot_model.specs.About.{about}
use Rattle.depot_model.specs.Arguments.{named, no_file, over_all, within_files}
use Rattle.depot_model.specs.Asking.{to_open}
use Rattle.depot_model.specs.Choice.{shown}
use Rattle.depot_model.specs.Commands.{whole_step, step}
use Rattle.depot_model.specs.Common.{common_refusals, last_refusals, word_refusal}
use Rattle.depot_model.specs.Deeds.{Deed, Opening, Open}
use Rattle.depot_model.specs.Opened.{opened}
use Rattle.depot_model.specs.Places.{Placed, taken}
use Rattle.depot_model.specs.Shelves.{kept, kept_paths, kept_opening, kept_block}
use Rattle.depot_model.specs.Step.{Step, nothing, both, does, refuses, refuse_if}
use Rattle.depot_model.specs.Steps.Opening.{named_change_refusal, right_refusal, exclusive_refusal}
use Rattle.depot_model.specs.Steps.Shelving.{unshelve, unshelve_file, unshelve_opening, unshelved_row, shelf_refusal}
use Rattle.depot_model.specs.declared.command.Command.{Command}
use Rattle.depot_model.specs.declared.command.Command.TheVariants.{Unshelve}
use Rattle.depot_model.specs.declared.command.FileArgument.{FileArgument}
use Rattle.depot_model.specs.declared.refusal.Refusal.{Refusal}
use Rattle.depot_model.specs.declared.refusal.Refusal.TheVariants.{NotInView, AlreadyOpen, NoSuchFile}
use Rattle.depot_model.specs.declared.request.Caller.{Caller}
use Rattle.depot_model.specs.declared.request.Request.{Request}
use Rattle.depot_model.specs.declared.request.WordFault.{WordFault}
use Rattle.depot_runs.specs.Folds.{shelf_state}
use Rattle.shelf_laws.specs.Unshelving.{IsOpenedSo, IsToldSo, RefusesOrAnswersEach}
use Rattle.shelf_laws.proofs.Keeping.{kept_as_shelved}
use Rattle.shelf_laws.proofs.Naming.{all_joined, each_of_files, wholly}
use Rattle.step_forms.proofs.Parts.{good_unless, good_within, good_over_all}

module _ (shelved : List ℕ → Option FormValue) (d : List Deed) (caller : Caller) (n : ℕ) (change : Option ℕ)
    (known : (path : List ℕ) (form : FormValue) → kept d n path ≡ Some form → shelved path ≡ Some form) where
  abbrev number : ℕ
  number = unwrap_or change 0

  record Good (step : Step) : Type 0 where
    pub deeds : AllByRecursion (IsOpenedSo shelved caller number) step.deeds
    pub rows : AllByRecursion (IsToldSo shelved caller number d) step.rows

  none : Good nothing
  none = record { deeds = tt; rows = tt }

  refused : (why : Refusal) → Good (refuses why)
  refused why = record { deeds = tt; rows = (inl (why, refl), tt) }

  together : (first next : Step) → Good first → Good next → Good (both first next)
  together first next h k = record {
    deeds = all_joined (IsOpenedSo shelved caller number) first.deeds next.deeds h.deeds k.deeds;
    rows = all_joined (IsToldSo shelved caller number d) first.rows next.rows h.rows k.rows;
  }

  one_file : (path : List ℕ) → Good (unshelve_file d caller n number path)
  one_file path = go (kept d n path) refl
    where
      go : (o : Option FormValue) → kept d n path ≡ o
          → Good (elim o as (λ _. Step) [ None ↦ nothing | Some form ↦ unshelve_opening d caller (kept_opening caller number path form) (kept_block form) ])
      go None e = none
      go (Some form) e =
          let o : Opening = kept_opening caller number path form in
          good_unless Good refused (
          right_refusal to_open d caller path
          ∷ refuse_if (is_none (shown d caller Head path)) (NotInView (printed path))
          ∷ refuse_if (is_some (opened d caller.client path)) (AlreadyOpen path)
          ∷ exclusive_refusal d path caller.client o.file_type
          ∷ []
          ) (does (Open o ∷ []) (unshelved_row d caller o (kept_block form)))
          (record { deeds = ((form, (known path form e, refl)), tt); rows = (inr (path, (form, (known path form e, refl))), tt) })

  all_files : (files : List FileArgument) → Good (unshelve d caller n change files)
  all_files files =
      let step = over_all (named false d caller (kept_paths d n)) no_file (λ _. unshelve_file d caller n number) files in
      good_unless Good refused (named_change_refusal d caller change ∷ shelf_refusal d caller n ∷ []) (within_files step)
      (good_within Good refused step
      (good_over_all Good none together (named false d caller (kept_paths d n)) (λ _. unshelve_file d caller n number) (λ _ path. one_file path)
      no_file (λ a. refused (NoSuchFile a.text)) files))

module _ (d : List Deed) (places : List Placed) (request : Request) (n : ℕ) (change : Option ℕ) (files : List FileArgument) where
  abbrev before : List Deed
  before = taken step d places

  abbrev So : Step → Type 0
  So one =
      Good (shelf_state step d places n) before request.caller n change (kept_as_shelved d places n) one
      × RefusesOrAnswersEach (shelf_state step d places n) before request.caller n (unwrap_or change 0) files one

  whole_so : So (whole_step before request (Unshelve n change files))
  whole_so =
      let known = kept_as_shelved d places n in
      let shelved = shelf_state step d places n in
      good_unless So (λ why. (refused shelved before request.caller n change known why, wholly shelved before request.caller n change files known why))
      (common_refusals before request.caller (about (Unshelve n change files)) ++ last_refusals before (Unshelve n change files))
      (unshelve before request.caller n change files)
      (all_files shelved before request.caller n change known files, each_of_files shelved before request.caller n change files known)

  step_so : request.command ≡ Ok (Unshelve n change files) → So (step before request)
  step_so is =
      subst (λ (asked : Result Command WordFault). So (elim asked as (λ _. Step) [ Err fault ↦ refuses (word_refusal fault) | Ok command ↦ whole_step before request command ]))
      (sym is) whole_so

pub unshelves_so : (d : List Deed) (places : List Placed) (request : Request) (n : ℕ) (change : Option ℕ) (files : List FileArgument)
    → request.command ≡ Ok (Unshelve n change files)
    → AllByRecursion (IsOpenedSo (shelf_state step d places n) request.caller (unwrap_or change 0)) (step (taken step d places) request).deeds
    × AllByRecursion (IsToldSo (shelf_state step d places n) request.caller (unwrap_or change 0) (taken step d places)) (step (taken step d places) request).rows
    × RefusesOrAnswersEach (shelf_state step d places n) (taken step d places) request.caller n (unwrap_or change 0) files (step (taken step d places) request)
unshelves_so d places request n change files is = let so = step_so d places request n change files is in (so.0.deeds, so.0.rows, so.1)
