-- Steps that only tell.
use Rattle.std.proofs.Common.{◌≡◌, ℕ, Bool, true, false, List, [], ◌∷◌, Option, Some, None, refl}
use Rattle.std.specs.Prelude.{◌&&◌, ◌==◌, not, codes, decimal, flat_map, map, length, if◌then◌else◌}
use Rattle.std.specs.List.{list_all, enumerate_from}
use Rattle.depot_rows.specs.view_map.Mapping.{path_in}
use Rattle.depot_rows.specs.depot_model.Arguments.{named, submitted, had, no_file, over, over_all}
use Rattle.depot_rows.specs.depot_model.Asking.{view, to_read}
use Rattle.depot_rows.specs.depot_model.Deeds.{Deed, Pending, Landing}
use Rattle.depot_rows.specs.depot_model.Fixes.{job}
use Rattle.depot_rows.specs.depot_model.Numbers.{pending, landing}
use Rattle.depot_rows.specs.depot_model.Rules.{IsSound}
use Rattle.depot_rows.specs.depot_model.Step.{Step, nothing, tells, refuses, after, unless, refuse_if}
use Rattle.depot_rows.specs.depot_model.Steps.Changing.{change_show, change_row, show_landed, listable, openings_in}
use Rattle.depot_rows.specs.depot_model.Steps.History.{integrated_row, records_of, log_fields, up_to, print_row, stat_row, change_fields, landed_files, integrated, filelog, log_file, print, print_chosen, describe, describe_landed, describe_pending, fstat, stat_file}
use Rattle.depot_rows.specs.depot_model.Steps.Jobs.{job_show}
use Rattle.depot_rows.specs.depot_model.Steps.Listing.{Numbered, chosen_revision, listed, file_row, files, tells_file, tells_revision}
use Rattle.depot_rows.specs.depot_model.Steps.Placing.{have_row, where_is, told, tell_place, place_row, have_step}
use Rattle.depot_rows.specs.depot_model.Steps.Reverting.{opened_step, opened_files, show_opened, not_open}
use Rattle.depot_rows.specs.depot_model.Steps.Shelving.{describe_shelved, describe_kept, shelf_refusal}
use Rattle.depot_rows.specs.depot_model.declared.command.FileArgument.{FileArgument}
use Rattle.depot_rows.specs.depot_model.FormRows.{form_fields}
use Rattle.depot_rows.specs.depot_model.Revisions.{is_live}
use Rattle.depot_rows.specs.depot_model.Rows.{row, path_field}
use Rattle.depot_rows.specs.depot_model.Steps.Opening.{right_refusal}
use Rattle.depot_rows.specs.depot_model.declared.refusal.Refusal.TheVariants.{NotInView, NoSuchChange, NoSuchJob, NoShelf}
use Rattle.depot_rows.specs.depot_model.declared.request.Caller.{Caller}
use Rattle.depot_rows.specs.spec_form.Form.{FormValue}
use Rattle.depot_facts.proofs.Steps.{AllOf, over_these, over_any, unless_all, unless_sound}

abbrev None_ : Deed → Type 0
None_ deed = ⊥

abbrev any : List ℕ → Bool
any path = true

all_any : (paths : List (List ℕ)) → list_all any paths ≡ true
all_any [] = refl
all_any (path ∷ paths) = all_any paths

pub tell_sound : (d : List Deed) → IsSound d → (deeds : List Deed) → AllOf None_ deeds → IsSound (after d deeds)
tell_sound d sound [] none = sound
tell_sound d sound (deed ∷ deeds) none = absurd none.0

module _ (named : FileArgument → List (List ℕ)) (missing : FileArgument → Step) (quiet : (a : FileArgument) → AllOf None_ (missing a).deeds)
    (act : FileArgument → List ℕ → Step) (acts : (a : FileArgument) (x : List ℕ) → AllOf None_ (act a x).deeds) where
  told_over : (arguments : List FileArgument) → AllOf None_ (over named missing act [] arguments).deeds
  told_over arguments = over_these None_ any named act (λ a. all_any (named a)) (λ a x is. acts a x) missing quiet [] arguments

  told_any : (arguments : List FileArgument) → AllOf None_ (over_all named missing act arguments).deeds
  told_any arguments = over_any None_ any named act (λ a. all_any (named a)) (λ a x is. acts a x) missing quiet arguments

-- a step that tells of something that is there
if_there : {A : Type 0} (tell : A → Step) → ((x : A) → AllOf None_ (tell x).deeds) → (o : Option A)
    → AllOf None_ (elim o as (λ _. Step) [ None ↦ nothing | Some x ↦ tell x ]).deeds
if_there tell h None = tt
if_there tell h (Some x) = h x

module _ (d : List Deed) (sound : IsSound d) (caller : Caller) where
  pub where_sound : (paths : List FileArgument) → IsSound (after d (where_is d caller paths).deeds)
  where_sound paths = tell_sound d sound (where_is d caller paths).deeds
      (told_over (told d caller) (λ a. refuses (NotInView a.text)) (λ a. tt) (λ _. tell_place d caller)
      (λ a x. if_there (λ place. tells (place_row x place ∷ [])) (λ place. tt) (path_in (view d caller.client) x)) paths)

  pub have_sound : (arguments : List FileArgument) → IsSound (after d (have_step d caller arguments).deeds)
  have_sound arguments = tell_sound d sound (have_step d caller arguments).deeds
      (told_any (named true d caller (had d caller.client)) no_file (λ a. tt) (λ _ path. tells (have_row d caller path ∷ [])) (λ a x. tt) arguments)

  pub opened_sound : (all : Bool) (arguments : List FileArgument) → IsSound (after d (opened_step d caller all arguments).deeds)
  opened_sound all arguments = tell_sound d sound (opened_step d caller all arguments).deeds
      (told_any (named true d caller (opened_files all d caller)) not_open (λ a. tt) (show_opened all d caller) (λ a x. tt) arguments)

  pub integrated_sound : (arguments : List FileArgument) → IsSound (after d (integrated d caller arguments).deeds)
  integrated_sound arguments = tell_sound d sound (integrated d caller arguments).deeds
      (told_over (named false d caller (submitted d)) no_file (λ a. tt) (λ _ path. tells (map integrated_row (records_of d caller path))) (λ a x. tt) arguments)

  pub filelog_sound : (arguments : List FileArgument) → IsSound (after d (filelog d caller arguments).deeds)
  filelog_sound arguments = tell_sound d sound (filelog d caller arguments).deeds
      (told_over (listed d caller) no_file (λ a. tt) (log_file d caller) each arguments)
    where
      each : (a : FileArgument) (x : List ℕ) → AllOf None_ (log_file d caller a x).deeds
      each a x = if_there (λ (r : Numbered). tells (row (path_field (codes "depotFile") x ∷ flat_map (log_fields d caller x) (enumerate_from 0 (up_to d x r.number))) ∷ []))
          (λ r. tt) (chosen_revision d caller a x)

  pub print_sound : (arguments : List FileArgument) → IsSound (after d (print d caller arguments).deeds)
  print_sound arguments = tell_sound d sound (print d caller arguments).deeds
      (told_over (listed d caller) no_file (λ a. tt) (λ a x. unless (right_refusal to_read d caller x ∷ []) (print_chosen d caller a x)) each arguments)
    where
      each : (a : FileArgument) (x : List ℕ) → AllOf None_ (unless (right_refusal to_read d caller x ∷ []) (print_chosen d caller a x)).deeds
      each a x = unless_all None_ (right_refusal to_read d caller x ∷ []) (print_chosen d caller a x)
          (λ none. if_there (λ (r : Numbered). tells (print_row x r ∷ [])) (λ r. tt) (chosen_revision d caller a x))

  pub fstat_sound : (arguments : List FileArgument) → IsSound (after d (fstat d caller arguments).deeds)
  fstat_sound arguments = tell_sound d sound (fstat d caller arguments).deeds
      (told_over (listed d caller) no_file (λ a. tt) (stat_file d caller) each arguments)
    where
      each : (a : FileArgument) (x : List ℕ) → AllOf None_ (stat_file d caller a x).deeds
      each a x = if_there (λ (r : Numbered). tells (stat_row d caller x r ∷ [])) (λ r. tt) (chosen_revision d caller a x)

  pub files_sound : (live : Bool) (arguments : List FileArgument) → IsSound (after d (files d caller live arguments).deeds)
  files_sound live arguments = tell_sound d sound (files d caller live arguments).deeds
      (told_over (listed d caller) no_file (λ a. tt) (tells_file live d caller) each arguments)
    where
      one : (path : List ℕ) (r : Numbered) → AllOf None_ (tells_revision live path r).deeds
      one path r = go (live && not (is_live r.made))
        where
          go : (b : Bool) → AllOf None_ (if b then nothing else tells (file_row path r ∷ [])).deeds
          go true = tt
          go false = tt

      each : (a : FileArgument) (x : List ℕ) → AllOf None_ (tells_file live d caller a x).deeds
      each a x = if_there (tells_revision live x) (one x) (chosen_revision d caller a x)

  pub describe_sound : (n : ℕ) → IsSound (after d (describe d caller n).deeds)
  describe_sound n = tell_sound d sound (describe d caller n).deeds (go (landing d n))
    where
      pend : (p : Option Pending) → AllOf None_ (elim p as (λ _. Step) [
        | None ↦ refuses (NoSuchChange n)
        | Some p ↦ tells (row (change_fields p.change p.user p.client p.moment (codes "pending") p.text) ∷ [])
      ]).deeds
      pend None = tt
      pend (Some p) = tt

      go : (l : Option Landing) → AllOf None_ (elim l as (λ _. Step) [ None ↦ describe_pending d n | Some l ↦ describe_landed d caller l ]).deeds
      go None = pend (pending d n)
      go (Some l) = unless_all None_ (refuse_if (length (landed_files d caller l.change) == 0) (NoSuchChange l.change) ∷ []) _ (λ none. tt)

  pub change_show_sound : (n : Option ℕ) → IsSound (after d (change_show d caller n).deeds)
  change_show_sound None = sound
  change_show_sound (Some n) = go (pending d n)
    where
      landed : (l : Option Landing) → IsSound (after d (elim l as (λ _. Step) [
        | None ↦ refuses (NoSuchChange n)
        | Some l ↦ tells (change_row (decimal n) l.client l.user (codes "submitted") l.text [] ∷ [])
      ]).deeds)
      landed None = sound
      landed (Some l) = sound

      go : (p : Option Pending) → IsSound (after d (elim p as (λ _. Step) [
        | None ↦ show_landed d n
        | Some p ↦ tells (change_row (decimal n) p.client p.user (codes "pending") p.text (listable d caller (openings_in d p)) ∷ [])
      ]).deeds)
      go None = landed (landing d n)
      go (Some p) = sound

  pub job_show_sound : (name : Option (List ℕ)) → IsSound (after d (job_show d caller name).deeds)
  job_show_sound None = sound
  job_show_sound (Some name) = go (job d name)
    where
      go : (o : Option FormValue) → IsSound (after d (elim o as (λ _. Step) [ None ↦ refuses (NoSuchJob name) | Some form ↦ tells (row (form_fields form) ∷ []) ]).deeds)
      go None = sound
      go (Some form) = sound

  pub describe_shelved_sound : (n : ℕ) → IsSound (after d (describe_shelved d caller n).deeds)
  describe_shelved_sound n = unless_sound d sound (shelf_refusal d caller n ∷ [])
      (elim (pending d n) [ None ↦ refuses (NoShelf n) | Some p ↦ tells (describe_kept d caller p ∷ []) ]) (λ none. go (pending d n))
    where
      go : (p : Option Pending) → IsSound (after d (elim p as (λ _. Step) [ None ↦ refuses (NoShelf n) | Some p ↦ tells (describe_kept d caller p ∷ []) ]).deeds)
      go None = sound
      go (Some p) = sound
