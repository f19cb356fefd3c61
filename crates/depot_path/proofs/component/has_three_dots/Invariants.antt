use Rattle.std.proofs.Common.{◌≡◌, length}
use Rattle.depot_path.specs.Path.{has_three_dots}
use Rattle.depot_path.proofs.component.has_three_dots.Given as goal

abbrev pub invariant-loop-rest : goal.invariant-loop-rest
invariant-loop-rest l = has_three_dots l.rest ≡ has_three_dots l.fn.text

abbrev pub decreases-loop-rest : goal.decreases-loop-rest
decreases-loop-rest l = length l.rest
