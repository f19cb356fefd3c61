use Rattle.std.proofs.Common.{◌≡◌, ◌++◌, length}
use Rattle.view_map.specs.Beginnings.{beginnings}
use Rattle.view_map.proofs.view.beginnings_of.Given as goal

abbrev pub invariant-loop-rest : goal.invariant-loop-rest
invariant-loop-rest l = l.texts ++ beginnings l.start l.rest ≡ beginnings l.start l.lines

abbrev pub decreases-loop-rest : goal.decreases-loop-rest
decreases-loop-rest l = length l.rest
