use Rattle.view_map.proofs.Lines.{HasRead}
use Rattle.view_map.proofs.view.read_lines.Given as goal

abbrev pub invariant-loop-i : goal.invariant-loop-i
invariant-loop-i l = HasRead l.root l.lines l.read l.i
