use Rattle.std.proofs.Common.{◌≡◌, Some, drop}
use Rattle.depot_path.specs.Utf8.{goes_on, is_utf8}
use Rattle.depot_path.proofs.utf8.is_utf8.Given as goal

abbrev pub invariant-loop-byte : goal.invariant-loop-byte
invariant-loop-byte l = goes_on (Some l.tail) (drop l.byte-index l.bytes) ≡ is_utf8 l.fn.bytes
