-- What a run promises whose files weren't opened.
use Rattle.std.specs.Prelude.{◌≡◌, ◌≢◌, ◌⊎◌, ℕ, List, length}
use Rattle.outside_api.specs.Disk.{Files, NoMore, StillTells}
use Rattle.outside_api.specs.Moments.{LeavesOnly}
use Rattle.outside_api.specs.Says.{DiskSays, SinkSays}
use Rattle.depot_rows.specs.depot_model.Deeds.{Deed}
use Rattle.recovery.specs.Damage.{IsDamage}
use Rattle.recovery.specs.declared.fault.DepotDisk.{DepotDisk}
use Rattle.recovery.specs.Standing.{StandFor}
use Rattle.end_lines.specs.declared.cause.Cause.TheVariants as causes
use Rattle.p4_server.specs.Files.{DiskRose, DisksStand, BothSynced}
use Rattle.p4_server.specs.Outside.{After, Before}
use Rattle.p4_server.specs.Telling.{IsToldAlone}

module _ {D S K : Type 0} (disk_says : DiskSays D) (sink_says : SinkSays K) (before : Before D K) (after : After D S K) where
  -- the root is empty, and both disks read as before
  pub record IsUnmade : Type 0 where
    pub cause_is : after.ended.cause ≡ causes.Unmade
    pub was_empty : (files : Files) → disk_says.seen before.journal files → length (files 0) ≡ 0
    pub synced : BothSynced disk_says before after

  -- the root isn't empty, the files are damaged at the place, no depot stands in them, and both disks read as before
  pub record IsDamaged : Type 0 where
    pub disk : DepotDisk
    pub file : ℕ
    pub place : ℕ
    pub cause_is : after.ended.cause ≡ causes.Damaged disk file place
    pub damage : (j a : Files) → disk_says.seen before.journal j → disk_says.seen before.archive a → IsDamage j a disk file place
    pub was_there : (files : Files) → disk_says.seen before.journal files → length (files 0) ≢ 0
    pub stands_for_none : (j a : Files) (d : List Deed) → disk_says.seen before.journal j → disk_says.seen before.archive a → StandFor d j a → ⊥
    pub synced : BothSynced disk_says before after

  -- a disk failed
  pub record IsUnread : Type 0 where
    pub cause_is : after.ended.cause ≡ causes.Fault
    pub risen : DiskRose disk_says before after

  -- The files weren't opened, and each image, at every moment, is one that the disks had; where they told what they read they still do. A count of the disks rises only where a fault is told.
  pub record IsUnopened : Type 0 where
    pub told : IsToldAlone sink_says before.out after.out after.ended
    pub journal_told : StillTells (disk_says.seen before.journal) (disk_says.seen after.ended.journal)
    pub archive_told : StillTells (disk_says.seen before.archive) (disk_says.seen after.ended.archive)
    pub journal_images : NoMore (disk_says.may_leave before.journal) (disk_says.may_leave after.ended.journal)
    pub archive_images : NoMore (disk_says.may_leave before.archive) (disk_says.may_leave after.ended.archive)
    pub any_moment : LeavesOnly disk_says before.journal after.ended.journal (disk_says.may_leave before.journal)
    pub archive_any_moment : LeavesOnly disk_says before.archive after.ended.archive (disk_says.may_leave before.archive)
    pub why : IsUnmade ⊎ (IsDamaged ⊎ (IsUnread ⊎ (after.ended.cause ≡ causes.Memory)))
    pub stand : after.ended.cause ≢ causes.Fault → DisksStand disk_says before after
