use Rattle.std.proofs.Common.{◌≡◌, length}
use Rattle.depot_path.specs.Date.{has_shape}
use Rattle.depot_path.proofs.date.has_shape.Given as goal

abbrev pub invariant-loop-shape : goal.invariant-loop-shape
invariant-loop-shape l = has_shape l.shape l.text ≡ has_shape l.fn.shape l.fn.text

abbrev pub decreases-loop-shape : goal.decreases-loop-shape
decreases-loop-shape l = length l.shape
