use Rattle.std.proofs.Common.{◌≡◌, ◌++◌, length}
use Rattle.depot_path.specs.Path.{unescaped}
use Rattle.depot_path.proofs.path.unescape.Given as goal

abbrev pub invariant-loop-rest : goal.invariant-loop-rest
invariant-loop-rest l = l.bytes.items ++ unescaped 0 l.rest ≡ unescaped 0 l.fn.text

abbrev pub decreases-loop-rest : goal.decreases-loop-rest
decreases-loop-rest l = length l.rest
