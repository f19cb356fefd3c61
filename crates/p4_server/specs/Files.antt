-- What the two disks of a depot hold before and after a run. A disk that doesn't tell what it holds reads as no files, and then these say nothing.
use Rattle.std.specs.Prelude.{◌≡◌, ◌≢◌, ◌⊎◌, ℕ, List, length}
use Rattle.outside_api.specs.Count.{HasRisen}
use Rattle.outside_api.specs.Disk.{Files, NoMore}
use Rattle.outside_api.specs.Says.{DiskSays, SinkSays}
use Rattle.depot_rows.specs.depot_model.Deeds.{Deed}
use Rattle.depot_runs.specs.Kept.{IsKept}
use Rattle.depot_rows.specs.depot_model.Places.{Placed}
use Rattle.depot_rows.specs.table_changes.Changed.{AllRows}
use Rattle.replica_turns.specs.Master.{Past}
use Rattle.replica_turns.specs.Written.{AreWritten, Leave}
use Rattle.recovery.specs.Contents.{HoldWhole}
use Rattle.recovery.specs.Looking.{OnlyReads}
use Rattle.recovery.specs.Opening.{HasSynced, LooksOnly}
use Rattle.recovery.specs.Standing.{StandFor}
use Rattle.p4_server.specs.Outside.{After, Before}

-- the disks read as files that stand for this depot
pub record IsStart {D : Type 0} (disk_says : DiskSays D) (journal archive : D) (d : List Deed) : Type 0 where
  pub journal_files : Files
  pub archive_files : Files
  pub journal_reads : disk_says.seen journal journal_files
  pub archive_reads : disk_says.seen archive archive_files
  pub stand : StandFor d journal_files archive_files

-- The root wasn't empty, the files hold rows that suit them with their contents, and the journal's disk was opened: until then each image, at every
-- moment, is one that the disk had, and then a crash leaves what it read at the start.
pub record HasOpened {D : Type 0} (disk_says : DiskSays D) (journal archive opened : D) : Type 0 where
  pub was_there : (files : Files) → disk_says.seen journal files → length (files 0) ≢ 0
  pub whole : (j a : Files) → disk_says.seen journal j → disk_says.seen archive a → (rows : AllRows) × HoldWhole j a rows
  pub looked : LooksOnly disk_says journal opened
  pub durable : NoMore (disk_says.seen journal) (disk_says.may_leave opened)

-- each pair of images that a crash may leave
abbrev pub EachPair : {D : Type 0} → DiskSays D → D → D → (Files → Files → Type 0) → Type 0
EachPair disk_says journal archive P = (j a : Files) → disk_says.may_leave journal j → disk_says.may_leave archive a → P j a

-- the pair is kept for the first k places: it stands for the depot after these, or for that depot with what one fault place among them would have done
abbrev pub PairIsKept : List Deed → List Placed → ℕ → Files → Files → Type 0
PairIsKept start places k journal archive = IsKept (λ d. StandFor d journal archive) start places k

-- Both disks read as before, and each image, at every moment, is one that they had.
pub record BothOnlyRead {D : Type 0} (disk_says : DiskSays D) (old_journal new_journal old_archive new_archive : D) : Type 0 where
  pub journal : OnlyReads disk_says old_journal new_journal
  pub archive : OnlyReads disk_says old_archive new_archive

module _ {D S K : Type 0} (disk_says : DiskSays D) (before : Before D K) (after : After D S K) where
  -- a count of the two disks has risen
  abbrev pub DiskRose : Type 0
  DiskRose = HasRisen (disk_says.faults before.journal) (disk_says.faults after.ended.journal) ⊎ HasRisen (disk_says.faults before.archive) (disk_says.faults after.ended.archive)

  -- the counts of both disks stand
  pub record DisksStand : Type 0 where
    pub journal : disk_says.faults after.ended.journal ≡ disk_says.faults before.journal
    pub archive : disk_says.faults after.ended.archive ≡ disk_says.faults before.archive

  -- From each depot for which the files stood, and each history as which they were written, both disks tell what they read, and each pair of images is so.
  abbrev pub GoOn : (Past → List Deed → Files → Files → Type 0) → Type 0
  GoOn IsSo = (d : List Deed) → IsStart disk_says before.journal before.archive d → (past : Past) → AreWritten disk_says before.journal before.archive past → Leave disk_says after.ended.journal after.ended.archive (IsSo past d)

  -- Both disks read as before, and a crash leaves what they read.
  pub record BothSynced : Type 0 where
    pub journal : HasSynced disk_says before.journal after.ended.journal
    pub archive : HasSynced disk_says before.archive after.ended.archive

-- a count of the two disks or of `out` has risen
abbrev pub DiskOrOutRose : {D S K : Type 0} → DiskSays D → SinkSays K → Before D K → After D S K → Type 0
DiskOrOutRose disk_says sink_says before after = DiskRose disk_says before after ⊎ HasRisen (sink_says.faults before.out) (sink_says.faults after.out)
