-- What opening answers (System Administrator Guide, "Backup and recovery"; what is checked is this project's own choice).
use Rattle.std.specs.Prelude.{◌≡◌, ◌⊎◌, Result, Ok, Err}
use Rattle.outside_api.specs.Disk.{Files, NoMore, Same}
use Rattle.outside_api.specs.Moments.{LeavesOnly}
use Rattle.outside_api.specs.Says.{DiskSays}
use Rattle.depot_rows.specs.db_records.declared.table.TableId.TheVariants.{Rev}
use Rattle.disk_journal.specs.Images.{Committed}
use Rattle.disk_journal.specs.Stands.{Stands, nothing, disk_of}
use Rattle.archive_file.specs.Archive.{used_of}
use Rattle.archive_file.specs.Archive as archives
use Rattle.depot_rows.specs.table_changes.Changed.{rows_of}
use Rattle.recovery.specs.Faults.{SaysNothing}
use Rattle.recovery.specs.Contents.{AreWhole}
use Rattle.recovery.specs.Holding.{HasAllRows, spots_end}
use Rattle.recovery.specs.declared.fault.OpenFault.TheVariants.{Unmade, DiskFault}
use Rattle.recovery.specs.declared.open.Opened.{Opened}
use Rattle.recovery.specs.declared.open.NotOpened.{NotOpened}

-- the two disks, whatever is answered
abbrev pub journal_disk : {D : Type 0} → Result (Opened D) (NotOpened D) → D
journal_disk (Ok opened) = disk_of opened.journal
journal_disk (Err found) = found.journal

abbrev pub archive_disk : {D : Type 0} → Result (Opened D) (NotOpened D) → D
archive_disk (Ok opened) = archives.disk_of opened.archive
archive_disk (Err found) = found.archive

-- What is committed has the rows of the tables, in each image and with nothing in doubt; the archive is used up to the last end of a spot, and each
-- image of it has the contents.
pub record IsOpen {D : Type 0} (disk_says : DiskSays D) (was : Committed) (opened : Opened D) : Type 0 where
  pub rows : HasAllRows was (rows_of opened.tables)
  pub stands : Stands disk_says opened.journal was nothing
  pub archive_end : opened.tables.archive_end ≡ spots_end (rows_of opened.tables Rev)
  pub used : used_of opened.archive ≡ opened.tables.archive_end
  pub contents : (image : Files) → disk_says.may_leave (archives.disk_of opened.archive) image → AreWhole (image 0) (rows_of opened.tables Rev)

-- the disk reads as before, and a crash leaves what it reads
pub record HasSynced {D : Type 0} (disk_says : DiskSays D) (old new : D) : Type 0 where
  pub same : Same (disk_says.seen old) (disk_says.seen new)
  pub durable : NoMore (disk_says.seen new) (disk_says.may_leave new)

-- each image is one that the disk had, at every moment
pub record LooksOnly {D : Type 0} (disk_says : DiskSays D) (old new : D) : Type 0 where
  pub no_more : NoMore (disk_says.may_leave old) (disk_says.may_leave new)
  pub any_moment : LeavesOnly disk_says old new (disk_says.may_leave old)

-- the fault is that a disk has failed
abbrev pub IsDiskFault : {D : Type 0} → Result (Opened D) (NotOpened D) → Type 0
IsDiskFault (Ok opened) = ⊥
IsDiskFault (Err found) = found.fault ≡ DiskFault

-- it is that there are no files
abbrev pub IsUnmade : {D : Type 0} → Result (Opened D) (NotOpened D) → Type 0
IsUnmade (Ok opened) = ⊥
IsUnmade (Err found) = found.fault ≡ Unmade

-- it was opened, or the fault says nothing of what the files read
abbrev pub OpensOrSaysNothing : {D : Type 0} → Result (Opened D) (NotOpened D) → Type 0
OpensOrSaysNothing (Ok opened) = Unit {0}
OpensOrSaysNothing (Err found) = SaysNothing found.fault

-- there are no files, or the fault says nothing of what they read
abbrev pub UnmadeOrSaysNothing : {D : Type 0} → Result (Opened D) (NotOpened D) → Type 0
UnmadeOrSaysNothing (Ok opened) = ⊥
UnmadeOrSaysNothing (Err found) = (found.fault ≡ Unmade) ⊎ SaysNothing found.fault
