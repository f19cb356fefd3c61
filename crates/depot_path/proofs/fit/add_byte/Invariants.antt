use Rattle.depot_path.proofs.Rows.{Adding}
use Rattle.depot_path.proofs.fit.add_byte.Given as goal

abbrev pub invariant-loop-at : goal.invariant-loop-at
invariant-loop-at l = Adding l.pieces l.byte l.fn.row l.row l.at l.below

abbrev pub decreases-loop-at : goal.decreases-loop-at
decreases-loop-at l = l.at
