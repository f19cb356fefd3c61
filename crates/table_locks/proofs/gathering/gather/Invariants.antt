use Rattle.std.proofs.Common.{◌≡◌, [], take}
use Rattle.std.specs.Prelude.{filter}
use Rattle.depot_model.specs.db_records.Table.{all_tables}
use Rattle.table_locks.specs.Gathered.{IsShown, tables_held}
use Rattle.table_locks.specs.Ways.{holds_table}
use Rattle.table_locks.proofs.gathering.gather.Given as goal

abbrev pub invariant-loop-table : goal.invariant-loop-table
invariant-loop-table g l = record {
  shown : IsShown g.N.Naming.rows l.gathered;
  held : tables_held l.gathered ≡ filter (holds_table l.whole l.needs) (take l.table-index all_tables);
  unseen : l.gathered.peeks.items ≡ [];
}
