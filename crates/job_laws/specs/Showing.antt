-- What `job -o` and `fixes` tell after the places of an order (Command-Line Reference, "p4 job", "p4 fixes").
use Rattle.std.specs.Prelude.{◌≡◌, ℕ, List, [], ◌∷◌, Option, Some, None, Contains, IsTrue}
use Rattle.depot_model.specs.spec_form.Form.{FormValue}
use Rattle.depot_model.specs.Commands.{step}
use Rattle.depot_model.specs.Deeds.{Deed}
use Rattle.depot_model.specs.Fixes.{fixed_job, fixes_on, is_on}
use Rattle.depot_model.specs.FormRows.{form_fields}
use Rattle.depot_model.specs.Places.{Placed, taken}
use Rattle.depot_model.specs.Rows.{row}
use Rattle.depot_model.specs.Rules.{IsSound}
use Rattle.depot_model.specs.Step.{Step, refuses, tells}
use Rattle.depot_model.specs.Steps.Jobs.{job_show}
use Rattle.depot_model.specs.declared.refusal.Refusal.TheVariants.{NoSuchJob}
use Rattle.depot_model.specs.declared.request.Caller.{Caller}
use Rattle.depot_runs.specs.Folds.{job_state, fix_state}

-- the step of `job -o`, where no refusal that is common to all commands holds
abbrev pub shows_job : List ℕ → Option FormValue → Step
shows_job name None = refuses (NoSuchJob name)
shows_job name (Some form) = tells (row (form_fields form) ∷ [])

abbrev pub JobsAreShown : Type 0
JobsAreShown = (d : List Deed) → IsSound d → (places : List Placed) (caller : Caller) (name : List ℕ) →
    job_show (taken step d places) caller (Some name) ≡ shows_job name (job_state step d places name)

-- the fixes that are on, of which `fixes` lists those that are asked for, are what is folded of their jobs and changes
abbrev pub ListedAreFolded : Type 0
ListedAreFolded = (d : List Deed) → IsSound d → (places : List Placed) (form : FormValue) → Contains (fixes_on (taken step d places)) form →
    (n : ℕ) × (fix_state step d places (fixed_job form) n ≡ Some form)

-- and each that is folded and on is among them
abbrev pub FoldedAreListed : Type 0
FoldedAreListed = (d : List Deed) → IsSound d → (places : List Placed) (name : List ℕ) (n : ℕ) (form : FormValue) →
    fix_state step d places name n ≡ Some form → IsTrue (is_on form) → Contains (fixes_on (taken step d places)) form
