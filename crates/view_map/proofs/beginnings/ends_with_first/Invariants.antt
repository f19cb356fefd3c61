use Rattle.std.proofs.Common.{◌≡◌, length}
use Rattle.view_map.specs.Beginnings.{ends_with_first}
use Rattle.view_map.proofs.beginnings.ends_with_first.Given as goal

abbrev pub invariant-loop-rest : goal.invariant-loop-rest
invariant-loop-rest l = ends_with_first l.rest ≡ ends_with_first l.pieces

abbrev pub decreases-loop-rest : goal.decreases-loop-rest
decreases-loop-rest l = length l.rest
