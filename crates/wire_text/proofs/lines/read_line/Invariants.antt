use Rattle.std.proofs.Common.{◌≤◌, ◌+◌, ◌-◌, length}
use Rattle.wire_text.specs.Parts.{IsFree}
use Rattle.wire_text.specs.Intake.{Moves}
use Rattle.wire_text.proofs.lines.read_line.Given as goal

abbrev pub invariant-loop-line : goal.invariant-loop-line
invariant-loop-line g l =
    record {
      moves : Moves (g.S.Source.says.left l.fn.source) (g.S.Source.says.left l.source) l.fn.intake l.intake l.line.items;
      free : IsFree 10 l.line.items;
      short : length l.line.items ≤ 8192;
      counts : g.S.Source.says.faults l.fn.source ≤ g.S.Source.says.faults l.source;
    }

abbrev pub decreases-loop-line : goal.decreases-loop-line
decreases-loop-line g l = 67108864 - (l.intake.place + length l.intake.held)
