use Rattle.std.proofs.Common.{◌≡◌, ◌++◌, length, map}
use Rattle.view_map.specs.Specifiers.{labels, labels_after, text_for, answering}
use Rattle.view_map.proofs.Walks.{ArePassed}
use Rattle.view_map.proofs.specifiers.answering_texts.Given as goal

abbrev pub invariant-loop-label : goal.invariant-loop-label
invariant-loop-label l =
    ArePassed l.to l.rest l.stars l.dots
    × (l.answer ++ map (text_for (labels l.from) l.texts) (labels_after l.stars l.dots l.rest) ≡ answering l.from l.to l.texts)

abbrev pub decreases-loop-label : goal.decreases-loop-label
decreases-loop-label l = length l.rest
