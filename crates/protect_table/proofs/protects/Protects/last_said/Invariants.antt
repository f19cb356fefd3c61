use Rattle.protect_table.proofs.Naming.{IsLast}
use Rattle.protect_table.proofs.protects.Protects.last_said.Given as goal

abbrev pub invariant-loop-i : goal.invariant-loop-i
invariant-loop-i l = IsLast l.asked l.self l.numbers l.groups l.last l.i
