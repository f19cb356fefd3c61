use Rattle.std.proofs.Common.{◌≡◌, ◌++◌, length}
use Rattle.depot_path.specs.Pattern.{pieces}
use Rattle.depot_path.proofs.pattern.read_pieces.Given as goal

abbrev pub invariant-loop-rest : goal.invariant-loop-rest
invariant-loop-rest l = l.pieces.items ++ pieces l.positional 0 l.rest ≡ pieces l.positional 0 l.fn.text

abbrev pub decreases-loop-rest : goal.decreases-loop-rest
decreases-loop-rest l = length l.rest
