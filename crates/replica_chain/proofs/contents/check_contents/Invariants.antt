use Rattle.std.proofs.Common.{◌≡◌, ◌≤◌, length, take}
use Rattle.outside_api.specs.Disk.{Files}
use Rattle.archive_file.specs.Archive.{disk_of, used_of}
use Rattle.recovery.specs.Looking.{OnlyReads}
use Rattle.replica_chain.specs.Copying.{HasAllNamed, named_ends}
use Rattle.replica_chain.proofs.contents.check_contents.Given as goal

abbrev pub invariant-loop-change : goal.invariant-loop-change
invariant-loop-change g l = record {
  good : (files : Files) → g.D.Disk.says.seen (disk_of l.fn.archive) files → named_ends l.changes ≤ length (files 0) → HasAllNamed (files 0) (take l.change-index l.changes);
  reads : OnlyReads g.D.Disk.says (disk_of l.fn.archive) (disk_of l.archive);
  used : used_of l.archive ≡ used_of l.fn.archive;
  count : g.D.Disk.says.faults (disk_of l.fn.archive) ≤ g.D.Disk.says.faults (disk_of l.archive);
}
