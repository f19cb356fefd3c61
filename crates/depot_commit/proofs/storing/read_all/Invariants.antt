use Rattle.std.proofs.Common.{◌≡◌, ℕ, List, take}
use Rattle.archive_file.specs.Archive.{disk_of, used_of}
use Rattle.outside_api.specs.Disk.{Files, NoMore, Same}
use Rattle.depot_commit.specs.Storing.{AreAt}
use Rattle.depot_commit.proofs.storing.read_all.Given as goal

abbrev pub invariant-loop-place : goal.invariant-loop-place
invariant-loop-place g l = record {
  contents : (files : Files) (contents : List (List ℕ)) → g.D.Disk.says.seen (disk_of l.fn.archive) files → AreAt (files 0) l.places contents → l.contents ≡ take l.place-index contents;
  same : Same (g.D.Disk.says.seen (disk_of l.fn.archive)) (g.D.Disk.says.seen (disk_of l.archive));
  more : NoMore (g.D.Disk.says.may_leave (disk_of l.fn.archive)) (g.D.Disk.says.may_leave (disk_of l.archive));
  used : used_of l.archive ≡ used_of l.fn.archive;
  untouched : l.place-index ≡ 0 → l.archive ≡ l.fn.archive;
  counts : g.D.Disk.says.faults (disk_of l.archive) ≡ g.D.Disk.says.faults (disk_of l.fn.archive);
}
