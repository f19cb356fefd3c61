use Rattle.std.proofs.Common.{◌≡◌, length}
use Rattle.depot_path.specs.Pattern.{has_bad_percent}
use Rattle.depot_path.proofs.pattern.has_bad_percent.Given as goal

abbrev pub invariant-loop-rest : goal.invariant-loop-rest
invariant-loop-rest l = has_bad_percent l.positional 0 l.rest ≡ has_bad_percent l.positional 0 l.fn.text

abbrev pub decreases-loop-rest : goal.decreases-loop-rest
decreases-loop-rest l = length l.rest
