use Rattle.std.proofs.Common.{◌≡◌, ◌+◌, length}
use Rattle.std.specs.Prelude.{map, sum}
use Rattle.shelf_ops.specs.Sizes.{size_by}
use Rattle.shelf_ops.proofs.limits.are_large.Given as goal

abbrev pub invariant-loop-rest : goal.invariant-loop-rest
invariant-loop-rest l = record { counted : sum (map size_by l.deeds) + l.left ≡ 16777216 + sum (map size_by l.rest) }

abbrev pub decreases-loop-rest : goal.decreases-loop-rest
decreases-loop-rest l = length l.rest
