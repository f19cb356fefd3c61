use Rattle.std.proofs.Common.{length}
use Rattle.depot_rows.specs.table_changes.Drafts.{rows_of_draft}
use Rattle.recovery.proofs.SomeMade.{IsMade}
use Rattle.recovery.proofs.rows.take_changes.Given as goal

abbrev pub invariant-loop-change : goal.invariant-loop-change
invariant-loop-change l = IsMade (rows_of_draft l.fn.draft) (rows_of_draft l.draft) l.fn.changes l.left.items

abbrev pub decreases-loop-change : goal.decreases-loop-change
decreases-loop-change l = length l.left.items
