use Rattle.std.proofs.Common.{◌≡◌, ◌≤◌, length}
use Rattle.view_map.specs.Specifiers.{labels_after}
use Rattle.view_map.proofs.specifiers.next_label.Given as goal

abbrev pub invariant-loop-rest : goal.invariant-loop-rest
invariant-loop-rest l = (labels_after l.stars l.dots l.rest ≡ labels_after l.stars l.dots l.pieces) × (length l.rest ≤ length l.pieces)

abbrev pub decreases-loop-rest : goal.decreases-loop-rest
decreases-loop-rest l = length l.rest
