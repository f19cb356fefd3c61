use Rattle.std.proofs.Common.{◌≡◌, length}
use Rattle.view_map.specs.Specifiers.{labels, labels_after, text_for}
use Rattle.view_map.proofs.Walks.{ArePassed}
use Rattle.view_map.proofs.specifiers.text_for.Given as goal

abbrev pub invariant-loop-found : goal.invariant-loop-found
invariant-loop-found l =
    ArePassed l.pieces l.rest l.stars l.dots
    × (text_for (labels_after l.stars l.dots l.rest) l.texts l.label ≡ text_for (labels l.pieces) l.fn.texts l.label)

abbrev pub decreases-loop-found : goal.decreases-loop-found
decreases-loop-found l = length l.rest
