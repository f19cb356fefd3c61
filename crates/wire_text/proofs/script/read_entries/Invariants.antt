use Rattle.std.proofs.Common.{◌≤◌, ◌<◌, ◌-◌, [], length}
use Rattle.std.specs.Prelude.{None}
use Rattle.wire_text.specs.Reading.{GoesOn, point_at}
use Rattle.wire_text.proofs.script.read_entries.Given as goal

abbrev pub invariant-loop-input : goal.invariant-loop-input
invariant-loop-input g l =
    record {
      goes : GoesOn [] (g.S.Source.says.left l.fn.source) (g.S.Source.says.left l.source) l.fn.intake.held l.intake.held (point_at l.client l.fn.intake.place 1 None) (point_at l.client l.intake.place l.number l.input) l.entries;
      number : l.number ≤ l.intake.place;
      few : length l.entries < l.intake.place;
      most : l.intake.place ≤ 67108864;
      counts : g.S.Source.says.faults l.fn.source ≤ g.S.Source.says.faults l.source;
    }

abbrev pub decreases-loop-input : goal.decreases-loop-input
decreases-loop-input g l = 67108864 - l.intake.place
