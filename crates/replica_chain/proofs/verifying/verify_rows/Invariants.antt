use Rattle.std.proofs.Common.{◌≡◌, ◌≤◌}
use Rattle.archive_file.specs.Archive.{disk_of, used_of}
use Rattle.depot_rows.specs.db_records.declared.table.TableId.TheVariants.{Rev}
use Rattle.depot_rows.specs.table_changes.Changed.{rows_of}
use Rattle.recovery.specs.Looking.{OnlyReads}
use Rattle.replica_chain.proofs.Verified.{AreVerified}
use Rattle.replica_chain.proofs.verifying.verify_rows.Given as goal

abbrev pub invariant-loop-row : goal.invariant-loop-row
invariant-loop-row g l = record {
  verified : AreVerified (g.D.Disk.says.seen (disk_of l.fn.archive)) (rows_of l.tables Rev) l.row-iterator l.count;
  reads : OnlyReads g.D.Disk.says (disk_of l.fn.archive) (disk_of l.archive);
  used : used_of l.archive ≡ used_of l.fn.archive;
  faults : g.D.Disk.says.faults (disk_of l.fn.archive) ≤ g.D.Disk.says.faults (disk_of l.archive);
}
