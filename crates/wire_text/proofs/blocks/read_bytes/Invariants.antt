use Rattle.std.proofs.Common.{◌≤◌, ◌+◌, ◌-◌, length}
use Rattle.wire_text.specs.Intake.{Moves}
use Rattle.wire_text.proofs.blocks.read_bytes.Given as goal

abbrev pub invariant-loop-bytes : goal.invariant-loop-bytes
invariant-loop-bytes g l =
    record {
      moves : Moves (g.S.Source.says.left l.fn.source) (g.S.Source.says.left l.source) l.fn.intake l.intake l.bytes.items;
      short : length l.bytes.items ≤ l.count;
      counts : g.S.Source.says.faults l.fn.source ≤ g.S.Source.says.faults l.source;
    }

abbrev pub decreases-loop-bytes : goal.decreases-loop-bytes
decreases-loop-bytes g l = 67108864 - (l.intake.place + length l.intake.held)
