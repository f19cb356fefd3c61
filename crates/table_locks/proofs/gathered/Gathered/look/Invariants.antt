use Rattle.std.proofs.Common.{◌≡◌, take}
use Rattle.std.specs.Prelude.{filter}
use Rattle.depot_model.specs.db_records.Table.{all_tables}
use Rattle.table_locks.specs.Gathered.{IsShown, tables_seen}
use Rattle.table_locks.specs.Ways.{looks_at}
use Rattle.table_locks.proofs.gathered.Gathered.look.Given as goal

abbrev pub invariant-loop-table : goal.invariant-loop-table
invariant-loop-table g l = record {
  same : l.order ≡ l.fn.order;
  kept : l.self.held ≡ l.fn.self.held;
  end : l.self.tables.archive_end ≡ l.fn.self.tables.archive_end;
  shown : IsShown g.N.Naming.rows l.self;
  seen : tables_seen l.self ≡ filter (looks_at l.whole l.needs) (take l.table-index all_tables);
}
