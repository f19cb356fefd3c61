use Rattle.std.proofs.Common.{◌≡◌, length}
use Rattle.depot_path.specs.Path.{has_bad_escape}
use Rattle.depot_path.proofs.escape.has_bad_escape.Given as goal

abbrev pub invariant-loop-rest : goal.invariant-loop-rest
invariant-loop-rest l = has_bad_escape l.rest ≡ has_bad_escape l.fn.text

abbrev pub decreases-loop-rest : goal.decreases-loop-rest
decreases-loop-rest l = length l.rest
