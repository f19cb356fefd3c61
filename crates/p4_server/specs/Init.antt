-- What the mode `init` promises: it makes the files of an empty depot where there are none.
use Rattle.std.specs.Prelude.{◌≡◌, ◌≢◌, ◌⊎◌, [], length, Result, Ok, Err}
use Rattle.outside_api.specs.Count.{HasRisen}
use Rattle.outside_api.specs.Disk.{Files, After as AfterStep, Follows, Same, StillTells}
use Rattle.outside_api.specs.Moments.{LeavesOnly}
use Rattle.outside_api.specs.Says.{DiskSays, SinkSays}
use Rattle.disk_journal.specs.Made.{SameOthers}
use Rattle.recovery.specs.Making.{IsMaking}
use Rattle.recovery.specs.Opening.{LooksOnly}
use Rattle.recovery.specs.Standing.{StandFor}
use Rattle.recovery.specs.declared.fault.MakeFault.{MakeFault}
use Rattle.recovery.specs.declared.fault.MakeFault.TheVariants.{Made, DiskFault}
use Rattle.replica_turns.specs.Written.{WasWritten, nothing_done}
use Rattle.end_lines.specs.declared.cause.Cause.{Cause}
use Rattle.end_lines.specs.declared.cause.Cause.TheVariants as causes
use Rattle.p4_server.specs.Files.{EachPair, DiskRose, DisksStand, BothOnlyRead}
use Rattle.p4_server.specs.Outside.{After, Before}
use Rattle.p4_server.specs.Telling.{IsToldAlone}

-- the cause of an end, by how the making ended
abbrev pub cause_by : Result (Unit {0}) MakeFault → Cause
cause_by (Ok done) = causes.Done
cause_by (Err Made) = causes.Made
cause_by (Err DiskFault) = causes.Fault

module _ {D : Type 0} (disk_says : DiskSays D) (old_journal journal old_archive archive : D) where
  -- At every moment the other files of the journal's disk are as they were, and so is the root until the rest is that of an empty depot. Of the archive's disk
  -- each image, at every moment, is one that it had, and it reads as before unless its sync failed. Where they told what they read they still do.
  pub record HasOnlyMade (failed : Type 0) : Type 0 where
    pub journal_told : StillTells (disk_says.seen old_journal) (disk_says.seen journal)
    pub archive_told : StillTells (disk_says.seen old_archive) (disk_says.seen archive)
    pub journal_images : Follows IsMaking (disk_says.may_leave old_journal) (disk_says.may_leave journal)
    pub any_moment : LeavesOnly disk_says old_journal journal (AfterStep IsMaking (disk_says.may_leave old_journal))
    pub archive_looks : LooksOnly disk_says old_archive archive
    pub archive_reads : Same (disk_says.seen old_archive) (disk_says.seen archive) ⊎ (failed × HasRisen (disk_says.faults old_archive) (disk_says.faults archive))
    -- Where the root isn't empty nothing is touched.
    pub kept : (files : Files) → disk_says.seen old_journal files → length (files 0) ≢ 0 → BothOnlyRead disk_says old_journal journal old_archive archive

module _ {D S K : Type 0} (disk_says : DiskSays D) (sink_says : SinkSays K) (before : Before D K) (after : After D S K) where
  -- The root was empty, and whatever a crash leaves stands for the empty depot, with the other files of the journal's disk as they were read.
  pub record IsInited : Type 0 where
    pub cause_is : after.ended.cause ≡ causes.Done
    pub was_empty : (files : Files) → disk_says.seen before.journal files → length (files 0) ≡ 0
    pub empty : EachPair disk_says after.ended.journal after.ended.archive (StandFor [])
    -- and was written from the first change on, of which there is none yet
    pub written : EachPair disk_says after.ended.journal after.ended.archive (WasWritten nothing_done)
    pub others : Follows SameOthers (disk_says.seen before.journal) (disk_says.may_leave after.ended.journal)

  -- The root wasn't empty, and nothing is touched.
  pub record IsThere : Type 0 where
    pub cause_is : after.ended.cause ≡ causes.Made
    pub was_there : (files : Files) → disk_says.seen before.journal files → length (files 0) ≢ 0
    pub untouched : BothOnlyRead disk_says before.journal after.ended.journal before.archive after.ended.archive

  -- A disk failed.
  pub record IsFailed : Type 0 where
    pub cause_is : after.ended.cause ≡ causes.Fault
    pub risen : DiskRose disk_says before after

  -- However it ends, the disks are as making leaves them.
  pub record Inits : Type 0 where
    pub told : IsToldAlone sink_says before.out after.out after.ended
    pub ends : IsInited ⊎ (IsThere ⊎ IsFailed)
    pub disks : HasOnlyMade disk_says before.journal after.ended.journal before.archive after.ended.archive (after.ended.cause ≡ causes.Fault)
    -- A count of the disks rises only where a fault is told.
    pub stand : after.ended.cause ≢ causes.Fault → DisksStand disk_says before after
