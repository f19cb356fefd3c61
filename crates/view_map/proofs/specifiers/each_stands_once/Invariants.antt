use Rattle.std.proofs.Common.{◌≡◌, length}
use Rattle.std.specs.List.{list_all}
use Rattle.view_map.specs.Specifiers.{labels, labels_after, stands_once}
use Rattle.view_map.proofs.Walks.{ArePassed}
use Rattle.view_map.proofs.specifiers.each_stands_once.Given as goal

abbrev pub invariant-loop-label : goal.invariant-loop-label
invariant-loop-label l =
    ArePassed l.one l.rest l.stars l.dots
    × (list_all (stands_once (labels l.other)) (labels_after l.stars l.dots l.rest) ≡ list_all (stands_once (labels l.other)) (labels l.one))

abbrev pub decreases-loop-label : goal.decreases-loop-label
decreases-loop-label l = length l.rest
