use Rattle.std.proofs.Common.{◌≡◌, length}
use Rattle.depot_path.specs.Bytes.{begins_with}
use Rattle.depot_path.specs.Pattern.{literal}
use Rattle.view_map.proofs.line.begins_with_bytes.Given as goal

abbrev pub invariant-loop-expected : goal.invariant-loop-expected
invariant-loop-expected l = begins_with (literal l.rest) l.expected ≡ begins_with (literal l.pieces) l.bytes

abbrev pub decreases-loop-expected : goal.decreases-loop-expected
decreases-loop-expected l = length l.expected
