use Rattle.std.proofs.Common.{◌≡◌, ℕ, List, ◌++◌, length}
use Rattle.std.specs.Prelude.{flat_map}
use Rattle.depot_rows.specs.table_changes.Changed.{rows_of}
use Rattle.depot_rows.specs.depot_model.Deeds.{Deed}
use Rattle.depot_rows.specs.depot_model.Step.{Step as ModelStep, both}
use Rattle.depot_rows.specs.depot_model.Steps.Reverting.{both_ends, revert_files}
use Rattle.opened_files.specs.Reverts.{AreAlike, IsReverted, Reads}
use Rattle.opened_files.proofs.reverting.add_files.Given as goal

abbrev pub invariant-loop-rest : goal.invariant-loop-rest
invariant-loop-rest l = (d : List Deed) (done : ModelStep) (seen : List (List ℕ)) → Reads l.caller l.asker (rows_of l.tables) d
    → IsReverted (rows_of l.tables) d done seen l.fn.step l.fn.taken
    → (m : ModelStep) × (now : List (List ℕ)) × IsReverted (rows_of l.tables) d m now l.step l.taken
    × (both m (revert_files d l.caller now l.rest) ≡ both done (revert_files d l.caller seen l.paths))
    × AreAlike (flat_map (both_ends d l.caller) l.rest ++ now) (flat_map (both_ends d l.caller) l.paths ++ seen)

abbrev pub decreases-loop-rest : goal.decreases-loop-rest
decreases-loop-rest l = length l.rest
