use Rattle.std.proofs.Common.{◌≡◌}
use Rattle.depot_rows.specs.db_records.declared.table.TableId.TheVariants.{Rev}
use Rattle.depot_rows.specs.table_changes.Changed.{rows_of}
use Rattle.recovery.specs.Looking.{OnlyReads}
use Rattle.recovery.proofs.GoodSpots.{AreChecked}
use Rattle.recovery.proofs.contents.check_rows.Given as goal

abbrev pub invariant-loop-row : goal.invariant-loop-row
invariant-loop-row g l = record {
  checked : AreChecked (g.D.Disk.says.seen l.fn.disk) l.limit (rows_of l.tables Rev) l.row-iterator l.end;
  reads : OnlyReads g.D.Disk.says l.fn.disk l.disk;
  faults : g.D.Disk.says.faults l.disk ≡ g.D.Disk.says.faults l.fn.disk;
}
