-- What a submit makes of fixes: those of its change go with it to the number under which it lands (Command-Line Reference, "p4 submit", "p4 fix").
use Rattle.std.specs.Prelude.{◌≡◌, ℕ, ◌==◌, Bool, ◌||◌, not, if◌then◌else◌, List, Option, Some, None, Ok, option_map, codes, decimal}
use Rattle.depot_model.specs.depot_path.Bytes.{same}
use Rattle.depot_model.specs.spec_form.Form.{FormValue, with_field}
use Rattle.depot_model.specs.Commands.{step}
use Rattle.depot_model.specs.Deeds.{Deed, FixForm}
use Rattle.depot_model.specs.Fixes.{fix_name, has_fix}
use Rattle.depot_model.specs.Latest.{spec}
use Rattle.depot_model.specs.Rules.{IsSound}
use Rattle.depot_model.specs.Step.{after}
use Rattle.depot_model.specs.declared.command.Command.{Command}
use Rattle.depot_model.specs.declared.command.Command.TheVariants.{SubmitChange, SubmitDefault}
use Rattle.depot_model.specs.declared.request.Request.{Request}
use Rattle.depot_runs.specs.Folds.{landed_by}

-- the change that a command submits; the default change has the number 0
abbrev pub submitted : Command → Option ℕ
submitted (SubmitChange n) = Some n
submitted (SubmitDefault text) = Some 0
submitted _ = None

-- numbers that are written alike, as names of fixes tell them
abbrev pub is_written : ℕ → ℕ → Bool
is_written k n = same (decimal k) (decimal n)

-- a job's fix in change k where its fix in change n goes over to change m: in m it is the one that was in n, in n it is off, elsewhere it stays
abbrev pub fix_moved : List Deed → ℕ → ℕ → List ℕ → ℕ → Option FormValue
fix_moved d n m name k =
    if is_written k m then option_map (with_field (codes "Change") (decimal m)) (spec d FixForm (fix_name name n)) else
    (if is_written k n then option_map (with_field (codes "State") (codes "off")) (spec d FixForm (fix_name name n)) else spec d FixForm (fix_name name k))

-- a job's fix in change k where change n landed under number m: where the numbers are one, or the job has no fix in n that is on, it stays
abbrev pub fix_landed : List Deed → ℕ → ℕ → List ℕ → ℕ → Option FormValue
fix_landed d n m name k = if (n == m) || not (has_fix d n name) then spec d FixForm (fix_name name k) else fix_moved d n m name k

abbrev pub FixesGoWithTheirChange : Type 0
FixesGoWithTheirChange =
    (d : List Deed) → IsSound d → (request : Request) (command : Command) (n m : ℕ) → request.command ≡ Ok command → submitted command ≡ Some n →
    landed_by (step d request).deeds ≡ Some m → (name : List ℕ) (k : ℕ) →
    spec (after d (step d request).deeds) FixForm (fix_name name k) ≡ fix_landed d n m name k
