use Rattle.depot_path.proofs.Columns.{Joining}
use Rattle.depot_path.proofs.filling.add_piece.Given as goal

abbrev pub invariant-loop-at : goal.invariant-loop-at
invariant-loop-at l = Joining l.piece l.text l.fn.column l.column l.at l.below

abbrev pub decreases-loop-at : goal.decreases-loop-at
decreases-loop-at l = l.at
