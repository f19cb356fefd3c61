use Rattle.std.proofs.Common.{◌≡◌, ◌++◌}
use Rattle.std.specs.Map.{keys_of}
use Rattle.row_changes.specs.Ranges.{leading}
use Rattle.row_changes.proofs.ranges.keys_while.Given as goal

abbrev pub invariant-loop-key : goal.invariant-loop-key
invariant-loop-key l = leading l.range (keys_of l.fn.entries) ≡ l.found.items ++ leading l.range (keys_of l.key-iterator)
