-- A file that is kept after the places of an order has the form of the last `shelve` place that saved it, or that of the depot at the start.
use Rattle.std.proofs.Common.{◌≡◌, ℕ, Bool, true, false, List, [], ◌∷◌, Option, Some, None, Ok, refl, sym, subst}
use Rattle.std.specs.Prelude.{◌&&◌, not, option_and_then}
use Rattle.std.specs.List.{list_all}
use Rattle.std.specs.Option.{option_or}
use Rattle.std.proofs.lemmas.Bool.{and_parts}
use Rattle.depot_model.specs.depot_path.Bytes.{same}
use Rattle.depot_model.specs.spec_form.Form.{FormValue}
use Rattle.depot_model.specs.Asking.{to_open}
use Rattle.depot_model.specs.Commands.{step}
use Rattle.depot_model.specs.Deeds.{Deed, Spec, ShelfForm}
use Rattle.depot_model.specs.Latest.{when, same_kind, spec}
use Rattle.depot_model.specs.Places.{Placed, done_at, taken}
use Rattle.depot_model.specs.Shelves.{is_kept, kept, shelf_name}
use Rattle.depot_model.specs.Step.{after}
use Rattle.depot_model.specs.Steps.Opening.{right_refusal}
use Rattle.depot_model.specs.declared.command.Command.{Command}
use Rattle.depot_model.specs.declared.command.Command.TheVariants.{Shelve, ShelveDelete}
use Rattle.depot_model.specs.declared.request.Request.{Request}
use Rattle.depot_runs.specs.Folds.{saved_at, command_of, shelf_next, shelf_from, shelf_state}
use Rattle.step_forms.proofs.Combining.{done, each_refused}
use Rattle.step_forms.proofs.Placing.{at_place}
use Rattle.step_forms.proofs.Saving.{each_unkept}
use Rattle.step_forms.proofs.Staying.{form_stays, spec_after}
use Rattle.step_forms.proofs.Whole.{each_of, step_saves}
use Rattle.step_forms.specs.SavedForms.{saved_kinds}

abbrev kept_in : Option FormValue → Option FormValue
kept_in saved = option_and_then (λ (form : FormValue). when (is_kept form) form) saved

-- where the form that is saved is that of a kept file, it is this one
abbrev Keeps : Option FormValue → Option FormValue → Type 0
Keeps saved last = (form : FormValue) → kept_in saved ≡ Some form → last ≡ Some form

kept_itself : (saved : Option FormValue) → Keeps saved saved
kept_itself None form e = absurd cc
kept_itself (Some f) form e = go (is_kept f) e
  where
    go : (b : Bool) → when b f ≡ Some form → Some f ≡ Some form
    go true h = h
    go false h = absurd cc

-- a form that is saved is the last
said_last : (said saved last : Option FormValue) → Keeps saved last → Keeps (option_or said saved) (option_or said last)
said_last None saved last keeps = keeps
said_last (Some f) saved last keeps = kept_itself (Some f)

-- ---- forms of files that are gone

is_gone : Deed → Bool
is_gone (Spec kind name form) = not (is_kept form)
is_gone _ = true

module _ (name : List ℕ) (last : Option FormValue) where
  abbrev Last : List Deed → Type 0
  Last d = Keeps (spec d ShelfForm name) last

  one_gone : (d : List Deed) (deed : Deed) → is_gone deed ≡ true → Last d → Last (deed ∷ d)
  unfolding is_gone
  one_gone d (Spec kind n f) gone keeps = go (same_kind kind ShelfForm && same n name)
    where
      unkept : (b : Bool) → not b ≡ true → (form : FormValue) → when b f ≡ Some form → last ≡ Some form
      unkept true h form e = absurd cc
      unkept false h form e = absurd cc

      go : (b : Bool) → Keeps (option_or (when b f) (spec d ShelfForm name)) last
      go true form e = unkept (is_kept f) gone form e
      go false form e = keeps form e
  one_gone d _ gone keeps = keeps

  all_gone : (deeds d : List Deed) → list_all is_gone deeds ≡ true → Last d → Last (after d deeds)
  all_gone [] d gone keeps = keeps
  all_gone (deed ∷ deeds) d gone keeps =
      all_gone deeds (deed ∷ d) (and_parts (is_gone deed) (list_all is_gone deeds) gone).1
      (one_gone d deed (and_parts (is_gone deed) (list_all is_gone deeds) gone).0 keeps)

removed : (d : List Deed) (request : Request) (n : ℕ) (files : _) → request.command ≡ Ok (ShelveDelete n files) → list_all is_gone (step d request).deeds ≡ true
unfolding is_gone
removed d request n files is =
    (each_of d request is_gone (ShelveDelete n files) is
    (each_unkept d request.caller n files (λ path. each_refused (right_refusal to_open d request.caller path) _ _ (done _ _ refl)))).all

-- ---- places

module _ (n : ℕ) (path : List ℕ) where
  abbrev name : List ℕ
  name = shelf_name n path

  module _ (d : List Deed) where
    abbrev Next : Option Command → List Deed → Type 0
    Next command deeds = (last : Option FormValue) → Keeps (spec d ShelfForm name) last → Keeps (spec (after d deeds) ShelfForm name) (shelf_next command n path deeds last)

    nothing_done : (command : Option Command) → Next command []
    nothing_done None last keeps = keeps
    nothing_done (Some (Shelve m replaces files)) last keeps = keeps
    nothing_done (Some command) last keeps = keeps

    step_done : (request : Request) (command : Command) → request.command ≡ Ok command → Next (Some command) (step d request).deeds
    step_done request (Shelve m replaces files) is last keeps =
        let deeds = (step d request).deeds in
        subst (λ (o : Option FormValue). Keeps o (option_or (saved_at ShelfForm name deeds) last)) (sym (spec_after ShelfForm name d deeds))
        (said_last (saved_at ShelfForm name deeds) (spec d ShelfForm name) last keeps)
    step_done request (ShelveDelete m files) is last keeps = all_gone name last (step d request).deeds d (removed d request m files is) keeps
    step_done request command is last keeps =
        subst (λ (o : Option FormValue). Keeps o last)
        (sym (form_stays (saved_kinds command) ShelfForm refl name d (step d request).deeds (step_saves d request command is).all)) keeps

  all_places : (places : List Placed) (d : List Deed) (last : Option FormValue) → Keeps (spec d ShelfForm name) last
      → Keeps (spec (taken step d places) ShelfForm name) (shelf_from step d places n path last)
  all_places [] d last keeps = keeps
  all_places (p ∷ places) d last keeps =
      all_places places (after d (done_at step d p)) (shelf_next (command_of p) n path (done_at step d p) last)
      (at_place d (Next d) (nothing_done d) (step_done d) p last keeps)

pub kept_as_shelved : (d : List Deed) (places : List Placed) (n : ℕ) (path : List ℕ) (form : FormValue)
    → kept (taken step d places) n path ≡ Some form → shelf_state step d places n path ≡ Some form
kept_as_shelved d places n path form e =
    all_places n path places d (spec d ShelfForm (shelf_name n path)) (kept_itself (spec d ShelfForm (shelf_name n path))) form e
