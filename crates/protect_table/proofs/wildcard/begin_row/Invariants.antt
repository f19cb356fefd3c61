use Rattle.protect_table.proofs.Places.{Begun}
use Rattle.protect_table.proofs.wildcard.begin_row.Given as goal

abbrev pub invariant-loop-at : goal.invariant-loop-at
invariant-loop-at l = Begun l.text l.row l.at

abbrev pub decreases-loop-at : goal.decreases-loop-at
decreases-loop-at l = l.at
