use Rattle.std.proofs.Common.{◌≡◌, ℕ, List, [], length}
use Rattle.depot_rows.specs.table_changes.Changed.{rows_of}
use Rattle.depot_rows.specs.depot_model.Deeds.{Deed}
use Rattle.depot_rows.specs.depot_model.Step.{Step as ModelStep, both}
use Rattle.depot_rows.specs.depot_model.Steps.Reverting.{revert_over}
use Rattle.opened_files.specs.Reverts.{IsReverted, Reads}
use Rattle.opened_files.proofs.reverting.revert_over.Given as goal

abbrev pub invariant-loop-rest : goal.invariant-loop-rest
invariant-loop-rest l = (d : List Deed) → Reads l.files.caller.now l.files.asker.now (rows_of l.tables) d
    → (m : ModelStep) × (now : List (List ℕ)) × IsReverted (rows_of l.tables) d m now l.step l.taken
    × (both m (revert_over d l.files.caller.now l.files.change now l.rest) ≡ revert_over d l.files.caller.now l.files.change [] l.arguments)

abbrev pub decreases-loop-rest : goal.decreases-loop-rest
decreases-loop-rest l = length l.rest
