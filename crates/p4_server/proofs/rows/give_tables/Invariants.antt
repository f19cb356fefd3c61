use Rattle.std.proofs.Common.{◌≡◌, ◌≤◌, take}
use Rattle.outside_api.specs.Told.{extended}
use Rattle.depot_rows.specs.db_records.Table.{all_tables}
use Rattle.depot_rows.specs.table_store.Tables.{version_of}
use Rattle.p4_server.specs.Rows.{tables_text}
use Rattle.p4_server.proofs.rows.give_tables.Given as goal

abbrev pub invariant-loop-table : goal.invariant-loop-table
invariant-loop-table g l =
    record {
      given : g.K.Sink.says.given l.out ≡ extended (g.K.Sink.says.given l.fn.out) (tables_text (λ table. (version_of l.tables table).rows) (take l.table-index all_tables));
      counts : g.K.Sink.says.faults l.fn.out ≤ g.K.Sink.says.faults l.out;
    }
