-- What `integrate` does with a target, by which revisions are left to integrate and which of the two files are live (Command-Line Reference,
-- "p4 integrate").
use Rattle.std.specs.Prelude.{ℕ, Bool, true, false, List, [], ◌∷◌, Option, Some, None}
use Rattle.depot_rows.specs.depot_model.declared.refusal.Refusal.TheVariants.{AllIntegrated}
use Rattle.depot_rows.specs.depot_model.declared.request.Caller.{Caller}
use Rattle.depot_rows.specs.depot_model.Deeds as model
use Rattle.depot_rows.specs.depot_model.Deeds.{Deed, Action, How, Source, Open, Got, Owe, Paid, BranchFrom, DeleteFrom}
use Rattle.depot_rows.specs.depot_model.Revisions.{head, is_live_at, is_live_head}
use Rattle.depot_rows.specs.depot_model.Step.{Step, does, refuses}
use Rattle.depot_rows.specs.depot_model.Steps.Integrating.{integrate_row, opening, owing}
use Rattle.depot_rows.specs.depot_model.Steps.Opening.{held}
use Rattle.integ_records.specs.declared.crediting.Span.{Span}
use Rattle.integ_records.specs.declared.opened_targets.Way.{Way}
use Rattle.integ_records.specs.declared.opened_targets.Way.TheVariants.{Integrate, Branch, Delete}

-- by whether the source and the target are live
abbrev pub way_in : Bool → Bool → Option Way
way_in true true = Some Integrate
way_in true false = Some Branch
way_in false true = Some Delete
way_in false false = None

-- a target that is opened, with a resolve that is paid
abbrev pub paid_step : List Deed → Caller → Option ℕ → List ℕ → List ℕ → List ℕ → Span → Action → Option Source → How → Step
paid_step d caller change type s t ends action source how =
    does (Open (opening d caller change action type t source) ∷ Owe (owing caller s t ends.first ends.last) ∷ Paid (held caller t) s how ∷ [])
    (integrate_row s t ends.first ends.last action)

abbrev pub way_step : List Deed → Caller → Option ℕ → List ℕ → List ℕ → List ℕ → Span → Way → Step
way_step d caller change type s t ends Integrate =
    does (Open (opening d caller change model.Integrate type t None) ∷ Got (held caller t) (head d t) ∷ Owe (owing caller s t ends.first ends.last) ∷ [])
    (integrate_row s t ends.first ends.last model.Integrate)
way_step d caller change type s t ends Branch =
    paid_step d caller change type s t ends model.Branch (Some (record { path = s; rev = ends.last })) BranchFrom
way_step d caller change type s t ends Delete = paid_step d caller change type s t ends model.Delete None DeleteFrom

abbrev pub by_way : List Deed → Caller → Option ℕ → List ℕ → List ℕ → List ℕ → Span → Option Way → Step
by_way d caller change type s t ends None = refuses (AllIntegrated t)
by_way d caller change type s t ends (Some way) = way_step d caller change type s t ends way

-- by the first and the last revision that are left
abbrev pub by_ends : List Deed → Caller → Option ℕ → List ℕ → List ℕ → List ℕ → Option Span → Step
by_ends d caller change type s t None = refuses (AllIntegrated t)
by_ends d caller change type s t (Some ends) = by_way d caller change type s t ends (way_in (is_live_at d s ends.last) (is_live_head d t))
