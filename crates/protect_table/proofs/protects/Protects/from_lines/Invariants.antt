use Rattle.protect_table.proofs.Lines.{HasRead}
use Rattle.protect_table.proofs.protects.Protects.from_lines.Given as goal

abbrev pub invariant-loop-i : goal.invariant-loop-i
invariant-loop-i l = HasRead l.lines l.read l.i
