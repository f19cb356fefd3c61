use Rattle.std.proofs.Common.{◌≡◌, ◌-◌, ◌<◌, ◌≤◌, ◌^◌, ℕ, List, length, max, take}
use Rattle.outside_api.specs.Reaching.{Reaches}
use Rattle.archive_file.specs.Archive.{disk_of, used_of}
use Rattle.archive_file.specs.Contents.{IsFront}
use Rattle.replica_chain.specs.Copying.{KeepsUsed}
use Rattle.replica_chain.specs.Node.{AllReach, HasFrontTo}
use Rattle.replica_chain.proofs.contents.copy_contents.Given as goal

abbrev pub invariant-loop-at : goal.invariant-loop-at
invariant-loop-at g l = record {
  above : used_of l.fn.archive ≤ l.at;
  within : l.at ≤ max (used_of l.fn.archive) l.end;
  fits : used_of l.fn.archive < l.at → l.at < 2 ^ 63;
  reach : AllReach (g.D.Disk.says.may_leave (disk_of l.archive)) l.at;
  same : (before : List ℕ) → HasFrontTo (g.D.Disk.says.may_leave (disk_of l.fn.archive)) (used_of l.fn.archive) before →
      (now : List ℕ) × ((length now ≡ l.at) × (IsFront (take (used_of l.fn.archive) before) now × HasFrontTo (g.D.Disk.says.may_leave (disk_of l.archive)) l.at now));
  told : (before : List ℕ) → g.C.Contents.tells l.fn.contents before → HasFrontTo (g.D.Disk.says.may_leave (disk_of l.fn.archive)) (used_of l.fn.archive) before →
      (now : List ℕ) × (g.C.Contents.tells l.contents now × (IsFront before now × HasFrontTo (g.D.Disk.says.may_leave (disk_of l.archive)) l.at now));
  keeps : KeepsUsed g.D.Disk.says l.fn.archive l.archive;
  grows : (before : List ℕ) → g.C.Contents.tells l.fn.contents before → (now : List ℕ) × (g.C.Contents.tells l.contents now × IsFront before now);
  reached : Reaches g.C.Contents.keeps l.fn.contents l.contents;
  contents_count : g.C.Contents.faults l.fn.contents ≤ g.C.Contents.faults l.contents;
  count : g.D.Disk.says.faults (disk_of l.fn.archive) ≤ g.D.Disk.says.faults (disk_of l.archive);
}

abbrev pub decreases-loop-at : goal.decreases-loop-at
decreases-loop-at g l = l.end - l.at
