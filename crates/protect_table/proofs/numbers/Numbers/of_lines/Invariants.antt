use Rattle.std.proofs.Common.{take}
use Rattle.protect_table.specs.Numbers.{AreOf}
use Rattle.protect_table.proofs.numbers.Numbers.of_lines.Given as goal

abbrev pub invariant-loop-number : goal.invariant-loop-number
invariant-loop-number l = AreOf l.numbers (take l.number l.lines)
