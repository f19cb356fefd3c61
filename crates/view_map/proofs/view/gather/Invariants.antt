use Rattle.view_map.proofs.Placing.{HasFiles}
use Rattle.view_map.proofs.view.gather.Given as goal

abbrev pub invariant-loop-at : goal.invariant-loop-at
invariant-loop-at l = HasFiles l.lines l.path l.files l.at

abbrev pub decreases-loop-at : goal.decreases-loop-at
decreases-loop-at l = l.at
