use Rattle.std.proofs.Common.{◌≡◌, drop, length, nat_le}
use Rattle.depot_path.specs.Path.{printed}
use Rattle.depot_path.proofs.path.is_short_as_printed.Given as goal

abbrev pub invariant-loop-byte : goal.invariant-loop-byte
invariant-loop-byte l = nat_le (length (printed (drop l.byte-index l.path))) l.room ≡ nat_le (length (printed l.path)) 1024
