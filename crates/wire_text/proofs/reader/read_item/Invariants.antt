use Rattle.std.proofs.Common.{◌≤◌, ◌-◌, List, []}
use Rattle.wire_text.specs.Commands.{Passes}
use Rattle.wire_text.specs.Reading.{GoesOn, point_at}
use Rattle.wire_text.specs.declared.entry.Entry.{Entry}
use Rattle.wire_text.proofs.reader.read_item.Given as goal

abbrev pub invariant-loop-entry : goal.invariant-loop-entry
invariant-loop-entry g l =
    record {
      passed : (passed : List Entry) × Passes passed l.fn.contents.entries l.contents.entries × GoesOn [] (g.S.Source.says.left l.fn.source) (g.S.Source.says.left l.source) l.fn.intake.held l.intake.held (point_at l.client l.fn.intake.place l.number l.fn.input) (point_at l.client l.intake.place l.number l.input) passed;
      number : l.number ≤ l.intake.place;
      counts : g.S.Source.says.faults l.fn.source ≤ g.S.Source.says.faults l.source;
    }

abbrev pub decreases-loop-entry : goal.decreases-loop-entry
decreases-loop-entry g l = 67108864 - l.intake.place
