-- What a call does to a disk that it only reads and syncs, and which faults a disk is the cause of.
use Rattle.std.specs.Prelude.{◌⊎◌, ◌≤◌, ℕ}
use Rattle.outside_api.specs.Count.{HasRisen}
use Rattle.outside_api.specs.Disk.{NoMore, Same}
use Rattle.outside_api.specs.Moments.{LeavesOnly}
use Rattle.outside_api.specs.Says.{DiskSays}

-- the disk reads as before, and each image is one that it had
pub record OnlyReads {D : Type 0} (disk_says : DiskSays D) (old new : D) : Type 0 where
  pub same : Same (disk_says.seen old) (disk_says.seen new)
  pub no_more : NoMore (disk_says.may_leave old) (disk_says.may_leave new)
  pub any_moment : LeavesOnly disk_says old new (disk_says.may_leave old)

-- the count of a disk doesn't fall, and has risen where the fault is answered
pub record IsCause (before now : ℕ) (fault : Type 0) : Type 0 where
  pub never_falls : before ≤ now
  pub risen : fault → HasRisen before now

-- the same of two disks, of which one has failed
pub record AreCauses (journal_before journal_now archive_before archive_now : ℕ) (fault : Type 0) : Type 0 where
  pub journal_never_falls : journal_before ≤ journal_now
  pub archive_never_falls : archive_before ≤ archive_now
  pub risen : fault → HasRisen journal_before journal_now ⊎ HasRisen archive_before archive_now
