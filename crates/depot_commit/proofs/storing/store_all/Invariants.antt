use Rattle.std.proofs.Common.{◌≡◌, ◌+◌, ◌≤◌, take}
use Rattle.archive_file.specs.Archive.{disk_of}
use Rattle.depot_commit.specs.Placing.{KeepsUsed}
use Rattle.depot_commit.specs.Storing.{AllStoredTo}
use Rattle.depot_commit.proofs.storing.store_all.Given as goal

abbrev pub invariant-loop-content : goal.invariant-loop-content
invariant-loop-content g l = record {
  stored : AllStoredTo (g.D.Disk.says.seen (disk_of l.archive)) (take l.content-index l.contents) l.at l.end;
  kept : KeepsUsed g.D.Disk.says l.at l.fn.archive l.archive;
  above : l.at ≤ l.end;
  calls : g.D.Disk.says.calls (disk_of l.archive) ≤ g.D.Disk.says.calls (disk_of l.fn.archive) + l.content-index;
  counts : g.D.Disk.says.faults (disk_of l.archive) ≡ g.D.Disk.says.faults (disk_of l.fn.archive);
}
