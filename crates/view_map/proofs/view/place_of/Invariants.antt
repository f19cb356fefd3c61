use Rattle.view_map.proofs.Placing.{IsUntaken}
use Rattle.view_map.proofs.view.place_of.Given as goal

abbrev pub invariant-loop-at : goal.invariant-loop-at
invariant-loop-at l = IsUntaken l.lines l.file l.at

abbrev pub decreases-loop-at : goal.decreases-loop-at
decreases-loop-at l = l.at
