use Rattle.std.proofs.Common.{◌≡◌, [], length}
use Rattle.history_query.specs.Leaping.{texts_put}
use Rattle.history_query.proofs.leaping.set_of.Given as goal

abbrev pub invariant-loop-text : goal.invariant-loop-text
invariant-loop-text l = texts_put l.rest.items l.set ≡ texts_put l.fn.texts []

abbrev pub decreases-loop-text : goal.decreases-loop-text
decreases-loop-text l = length l.rest.items
