use Rattle.protect_table.proofs.Places.{Adding}
use Rattle.protect_table.proofs.wildcard.add_byte.Given as goal

abbrev pub invariant-loop-at : goal.invariant-loop-at
invariant-loop-at l = Adding l.byte l.text l.fn.row l.row l.at l.below

abbrev pub decreases-loop-at : goal.decreases-loop-at
decreases-loop-at l = l.at
