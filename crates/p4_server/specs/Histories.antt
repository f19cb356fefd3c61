-- Files that the program wrote from the first change on: what runs that follow one another leave of them, and begin with.
use Rattle.std.specs.Prelude.{List}
use Rattle.outside_api.specs.Disk.{Files, NoMore}
use Rattle.outside_api.specs.Says.{DiskSays}
use Rattle.depot_rows.specs.depot_model.Deeds.{Deed}
use Rattle.recovery.specs.Standing.{StandFor}
use Rattle.replica_turns.specs.Master.{AllFit, Past}
use Rattle.replica_turns.specs.Written.{AreWritten, Leave, WasWritten}
use Rattle.p4_server.specs.Files.{IsStart}

-- A pair of images stands for a depot, and was written from the first change on; the changes fit, one after another.
pub record IsOfHistory (journal archive : Files) : Type 0 where
  pub past : Past
  pub depot : List Deed
  pub fit : AllFit past.journal
  pub written : WasWritten past journal archive
  pub stands : StandFor depot journal archive

-- ---- two disks

-- the disk tells what it reads
abbrev pub Tells : {D : Type 0} → DiskSays D → D → Type 0
Tells disk_says disk = (files : Files) × disk_says.seen disk files

-- both tell what they read, and each pair of images that they may leave is such a one
abbrev pub AreOfHistories : {D : Type 0} → DiskSays D → D → D → Type 0
AreOfHistories disk_says journal archive = Leave disk_says journal archive IsOfHistory

-- They read as files that stand for a depot and were written so: from there on a run's replicas are promised their replies.
pub record AreOfHistory {D : Type 0} (disk_says : DiskSays D) (journal archive : D) : Type 0 where
  pub past : Past
  pub depot : List Deed
  pub fit : AllFit past.journal
  pub start : IsStart disk_says journal archive depot
  pub written : AreWritten disk_says journal archive past

-- The disks of the next run: these, or, after a stop between two runs, disks that tell what they read and leave no image that these couldn't.
pub record AreNext {D : Type 0} (disk_says : DiskSays D) (journal archive next_journal next_archive : D) : Type 0 where
  pub journal_tells : Tells disk_says next_journal
  pub archive_tells : Tells disk_says next_archive
  pub journal_images : NoMore (disk_says.may_leave journal) (disk_says.may_leave next_journal)
  pub archive_images : NoMore (disk_says.may_leave archive) (disk_says.may_leave next_archive)
