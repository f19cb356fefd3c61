use Rattle.std.proofs.Common.{◌≡◌, ◌++◌, drop}
use Rattle.depot_path.specs.Path.{printed}
use Rattle.depot_path.proofs.escape.print_bytes.Given as goal

abbrev pub invariant-loop-byte : goal.invariant-loop-byte
invariant-loop-byte l = l.text.items ++ printed (drop l.byte-index l.path) ≡ printed l.path
