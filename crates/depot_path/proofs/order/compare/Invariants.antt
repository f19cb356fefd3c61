use Rattle.std.proofs.Common.{◌≡◌, length}
use Rattle.depot_path.specs.Order.{path_cmp}
use Rattle.depot_path.proofs.order.compare.Given as goal

abbrev pub invariant-loop-left : goal.invariant-loop-left
invariant-loop-left l = path_cmp l.left l.right ≡ path_cmp l.fn.left l.fn.right

abbrev pub decreases-loop-left : goal.decreases-loop-left
decreases-loop-left l = length l.left
