use Rattle.std.proofs.Common.{◌≡◌, ◌≤◌, ◌-◌, take, length}
use Rattle.outside_api.specs.Told.{extended}
use Rattle.wire_text.proofs.giving.give_all.Given as goal

abbrev pub invariant-loop-at : goal.invariant-loop-at
invariant-loop-at g l =
    record {
      given : g.K.Sink.says.given l.sink ≡ extended (g.K.Sink.says.given l.fn.sink) (take l.at l.piece);
      within : l.at ≤ length l.piece;
      counts : g.K.Sink.says.faults l.fn.sink ≤ g.K.Sink.says.faults l.sink;
    }

abbrev pub decreases-loop-at : goal.decreases-loop-at
decreases-loop-at g l = length l.piece - l.at
