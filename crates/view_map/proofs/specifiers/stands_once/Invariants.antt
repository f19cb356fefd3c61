use Rattle.std.proofs.Common.{◌≡◌, ◌+◌, ◌≤◌, length, count_by}
use Rattle.view_map.specs.Specifiers.{labels, labels_after, same_label}
use Rattle.view_map.proofs.Walks.{ArePassed}
use Rattle.view_map.proofs.specifiers.stands_once.Given as goal

abbrev pub invariant-loop-found : goal.invariant-loop-found
invariant-loop-found l =
    ArePassed l.pieces l.rest l.stars l.dots × (l.count + length l.rest ≤ length l.pieces)
    × (l.count + count_by (same_label l.label) (labels_after l.stars l.dots l.rest) ≡ count_by (same_label l.label) (labels l.pieces))

abbrev pub decreases-loop-found : goal.decreases-loop-found
decreases-loop-found l = length l.rest
