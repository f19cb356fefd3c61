-- Shelves, jobs and fixes as folds over the places of an order, and what is to be proved of them (Command-Line Reference, "p4 shelve", "p4 job",
-- "p4 fix").
use Rattle.std.specs.Prelude.{◌≡◌, ℕ, Bool, true, false, ◌&&◌, List, [], ◌∷◌, reverse, Option, Some, None, Ok, option_and_then, option_map, is_some, IsTrue, IsFalse, IsSome, filter, not, codes}
use Rattle.std.specs.Result.{result_ok}
use Rattle.std.specs.Option.{option_or, option_map_or}
use Rattle.depot_model.specs.spec_form.Form.{FormValue}
use Rattle.depot_model.specs.declared.command.Command.{Command}
use Rattle.depot_model.specs.declared.command.Command.TheVariants.{JobSave, SubmitChange, SubmitDefault, Fix, FixDelete, Shelve, Files, FileLog, Print, Describe, Changes}
use Rattle.depot_model.specs.Deeds.{Deed, SpecKind, ShelfForm, JobForm, FixForm, Land, Spec}
use Rattle.depot_model.specs.Latest.{latest, spec, spec_said}
use Rattle.depot_model.specs.Shelves.{shelf_name, is_shelved, kept}
use Rattle.depot_model.specs.Fixes.{job, has_fix, fix_name, closed}
use Rattle.depot_model.specs.Step.{Step, after}
use Rattle.depot_model.specs.Commands.{step}
use Rattle.depot_model.specs.Places.{Placed, done_at, taken}
use Rattle.std.specs.List.{list_all}
use Rattle.depot_model.specs.depot_path.Bytes.{same}
use Rattle.depot_model.specs.declared.request.Request.{Request}
use Rattle.depot_model.specs.declared.command.FileArgument.{FileArgument}
use Rattle.depot_model.specs.Rules.{IsSound}
use Rattle.depot_model.specs.Numbers.{landing}

-- the form that a place's deeds save under a name
abbrev pub saved_at : SpecKind → List ℕ → List Deed → Option FormValue
saved_at kind name deeds = latest (spec_said kind name) (reverse deeds)

-- the change that a place's deeds land
abbrev pub landed_said : Deed → Option ℕ
landed_said (Land l) = Some l.change
landed_said _ = None

abbrev pub landed_by : List Deed → Option ℕ
landed_by deeds = latest landed_said deeds

-- the command of a place
abbrev pub command_of : Placed → Option Command
command_of p = option_and_then (λ (r : Request). result_ok r.command) p.request

-- ---- what one place makes of a shelved file: a `shelve` that saved it gives its form

abbrev pub shelf_next : Option Command → ℕ → List ℕ → List Deed → Option FormValue → Option FormValue
shelf_next (Some (Shelve m replaces files)) n path deeds before = option_or (saved_at ShelfForm (shelf_name n path) deeds) before
shelf_next _ n path deeds before = before

-- ---- what one place makes of a job: `job -i` gives its form, a submit or a fix closes it, every other place keeps it

-- a submit landed a change with a fix of the job on; the default change has the number 0
abbrev pub closes_by_submit : List Deed → List ℕ → ℕ → List Deed → Bool
closes_by_submit d name n deeds = is_some (landed_by deeds) && has_fix d n name

-- a fix put the job on a submitted change
abbrev pub closes_by_fix : List Deed → List ℕ → ℕ → List Deed → Bool
closes_by_fix d name n deeds = is_some (landing d n) && is_some (saved_at FixForm (fix_name name n) deeds)

abbrev pub closed_where : Bool → Option FormValue → Option FormValue
closed_where true before = option_map closed before
closed_where false before = before

abbrev pub job_next : Option Command → List Deed → List ℕ → List Deed → Option FormValue → Option FormValue
job_next (Some JobSave) d name deeds before = option_or (saved_at JobForm name deeds) before
job_next (Some (SubmitChange n)) d name deeds before = closed_where (closes_by_submit d name n deeds) before
job_next (Some (SubmitDefault text)) d name deeds before = closed_where (closes_by_submit d name 0 deeds) before
job_next (Some (Fix n names)) d name deeds before = closed_where (closes_by_fix d name n deeds) before
job_next _ d name deeds before = before

-- ---- what one place makes of a fix: `fix` and `fix -d` give its form, and a submit under another number renumbers it

abbrev pub fix_next : Option Command → List ℕ → ℕ → List Deed → Option FormValue → Option FormValue
fix_next (Some (Fix m names)) name n deeds before = option_or (saved_at FixForm (fix_name name n) deeds) before
fix_next (Some (FixDelete m names)) name n deeds before = option_or (saved_at FixForm (fix_name name n) deeds) before
fix_next (Some (SubmitChange m)) name n deeds before = option_or (saved_at FixForm (fix_name name n) deeds) before
fix_next (Some (SubmitDefault text)) name n deeds before = option_or (saved_at FixForm (fix_name name n) deeds) before
fix_next _ name n deeds before = before

-- ---- the same over the places of an order, from what was there at the start

module _ (step : List Deed → Request → Step) where
  abbrev pub shelf_from : List Deed → List Placed → ℕ → List ℕ → Option FormValue → Option FormValue
  shelf_from d [] n path before = before
  shelf_from d (p ∷ places) n path before =
      shelf_from (after d (done_at step d p)) places n path (shelf_next (command_of p) n path (done_at step d p) before)

  abbrev pub shelf_state : List Deed → List Placed → ℕ → List ℕ → Option FormValue
  shelf_state d places n path = shelf_from d places n path (spec d ShelfForm (shelf_name n path))

  abbrev pub job_from : List Deed → List Placed → List ℕ → Option FormValue → Option FormValue
  job_from d [] name before = before
  job_from d (p ∷ places) name before =
      job_from (after d (done_at step d p)) places name (job_next (command_of p) d name (done_at step d p) before)

  abbrev pub job_state : List Deed → List Placed → List ℕ → Option FormValue
  job_state d places name = job_from d places name (job d name)

  abbrev pub fix_from : List Deed → List Placed → List ℕ → ℕ → Option FormValue → Option FormValue
  fix_from d [] name n before = before
  fix_from d (p ∷ places) name n before =
      fix_from (after d (done_at step d p)) places name n (fix_next (command_of p) name n (done_at step d p) before)

  abbrev pub fix_state : List Deed → List Placed → List ℕ → ℕ → Option FormValue
  fix_state d places name n = fix_from d places name n (spec d FixForm (fix_name name n))

-- ---- what is to be proved of them, whatever the order of places

-- of jobs, from every sound depot
abbrev pub JobsAreFolded : Type 0
JobsAreFolded = (d : List Deed) → IsSound d → (places : List Placed) (name : List ℕ) → job (taken step d places) name ≡ job_state step d places name

abbrev pub FixesAreFolded : Type 0
FixesAreFolded =
    (d : List Deed) (places : List Placed) (name : List ℕ) (n : ℕ) →
    spec (taken step d places) FixForm (fix_name name n) ≡ fix_state step d places name n

-- a file that is kept has the form of the last `shelve` place that saved it, or, where no place did, that of the depot at the start
abbrev pub KeptAsLastShelved : Type 0
KeptAsLastShelved =
    (d : List Deed) (places : List Placed) (n : ℕ) (path : List ℕ) (form : FormValue) →
    kept (taken step d places) n path ≡ Some form → shelf_state step d places n path ≡ Some form

-- the history is told alike without the shelves
abbrev pub is_shelf : Deed → Bool
is_shelf (Spec ShelfForm name form) = true
is_shelf _ = false

abbrev pub without_shelves : List Deed → List Deed
without_shelves d = filter (λ deed. not (is_shelf deed)) d

abbrev pub tells_history : Command → Bool
tells_history (Files live files) = true
tells_history (FileLog files) = true
tells_history (Print files) = true
tells_history (Describe n) = true
tells_history (Changes most status user client files) = option_map_or (same (codes "submitted")) status false
tells_history _ = false

abbrev pub ShelvesAreApart : Type 0
ShelvesAreApart =
    (d : List Deed) (request : Request) (command : Command) → request.command ≡ Ok command → IsTrue (tells_history command) →
    (step d request).rows ≡ (step (without_shelves d) request).rows

-- a `shelve` does nothing but shelve
abbrev pub ShelveKeepsAll : Type 0
ShelveKeepsAll =
    (d : List Deed) (request : Request) (n : ℕ) (replaces : Bool) (files : List FileArgument) →
    request.command ≡ Ok (Shelve n replaces files) → IsTrue (list_all is_shelf (step d request).deeds)

-- no change lands with a kept file
abbrev pub NoShelfLands : Type 0
NoShelfLands = (d : List Deed) → IsSound d → (n : ℕ) → IsSome (landing d n) → IsFalse (is_shelved d n)
