use Rattle.std.proofs.Common.{◌≡◌, ◌≤◌, ◌++◌, map}
use Rattle.outside_api.specs.Told.{extended}
use Rattle.p4_server.specs.Rows.{rows_text}
use Rattle.p4_server.proofs.rows.give_rows.Given as goal

abbrev pub invariant-loop-row : goal.invariant-loop-row
invariant-loop-row g l =
    record {
      given : g.K.Sink.says.given l.out ≡ extended (g.K.Sink.says.given l.fn.out) (rows_text (map (λ row. row.now) l.yielded));
      items : map (λ row. row.now) l.yielded ++ l.row-iterator ≡ l.fn.version.rows;
      counts : g.K.Sink.says.faults l.fn.out ≤ g.K.Sink.says.faults l.out;
    }
