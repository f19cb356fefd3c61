-- A depot in files that has taken commands.
use Rattle.std.specs.Prelude.{◌≡◌, ◌⊎◌, ℕ, Bool, true, false, List}
use Rattle.outside_api.specs.Count.{HasRisen}
use Rattle.outside_api.specs.Disk.{Files}
use Rattle.outside_api.specs.Says.{DiskSays}
use Rattle.archive_file.specs.Archive as archives
use Rattle.disk_journal.specs.Images.{Committed}
use Rattle.disk_journal.specs.Stands.{Doubtful, Stands, disk_of}
use Rattle.depot_rows.specs.depot_model.Deeds.{Deed}
use Rattle.depot_rows.specs.depot_model.Places.{Placed}
use Rattle.depot_rows.specs.depot_model.declared.request.Request.{Request}
use Rattle.depot_rows.specs.Standing.{Stand}
use Rattle.depot_rows.specs.table_changes.Changed.{rows_of}
use Rattle.command_core.specs.declared.outcome.Outcome.{Outcome}
use Rattle.depot_commit.specs.Committing.{AreRowsAfter, IsOutcomeOf}
use Rattle.depot_commit.specs.Growing.{Chronicle, HasGroups, grown}
use Rattle.depot_commit.specs.Opening.{opens_generation}
use Rattle.depot_commit.specs.Running.{HasRunOver}
use Rattle.depot_commit.specs.Storing.{AllReach}
use Rattle.serial_depot.specs.declared.depot.SerialDepot.{SerialDepot}

-- Since that moment a depot took the commands of these places, from the depot `start` on, beside its own archive, whose disk tells what it reads.
pub record HasRun {D : Type 0} (disk_says : DiskSays D) (depot : SerialDepot D) (since : ℕ) (start : List Deed) (places : List Placed) : Type 0 where
  pub tells : (files : Files) × disk_says.seen (archives.disk_of depot.archive) files
  pub over : HasRunOver disk_says (disk_says.may_leave (archives.disk_of depot.archive)) (archives.used_of depot.archive) depot.tables depot.journal since start places

-- The journal is one that can commit, and the archive one that can store behind what is used of it, of which the tables know.
pub record CanTake {D : Type 0} (disk_says : DiskSays D) (depot : SerialDepot D) : Type 0 where
  pub was : Committed
  pub doubt : Doubtful
  pub stands : Stands disk_says depot.journal was doubt
  pub end : depot.tables.archive_end ≡ archives.used_of depot.archive
  pub room : AllReach (disk_says.may_leave (archives.disk_of depot.archive)) (archives.used_of depot.archive)

-- the counts of faults of both disks stand: no call failed between these two moments
pub record HaveStood {D : Type 0} (disk_says : DiskSays D) (old new : SerialDepot D) : Type 0 where
  pub journal : disk_says.faults (disk_of new.journal) ≡ disk_says.faults (disk_of old.journal)
  pub archive : disk_says.faults (archives.disk_of new.archive) ≡ disk_says.faults (archives.disk_of old.archive)

-- Where a place isn't that of a fault no call of a disk failed, and where it is the count of one has risen.
pub record HaveCause {D : Type 0} (disk_says : DiskSays D) (fault : Bool) (old new : SerialDepot D) : Type 0 where
  pub only : fault ≡ false → HaveStood disk_says old new
  pub cause : fault ≡ true → HasRisen (disk_says.faults (disk_of old.journal)) (disk_says.faults (disk_of new.journal)) ⊎ HasRisen (disk_says.faults (archives.disk_of old.archive)) (disk_says.faults (archives.disk_of new.archive))

-- A request got no place: rows and journal are the same, what the depot has run is what it had run, and no call of a disk failed.
pub record HasStayed {D : Type 0} (disk_says : DiskSays D) (old new : SerialDepot D) : Type 0 where
  pub tables : new.tables ≡ old.tables
  pub journal : new.journal ≡ old.journal
  pub ran : (since : ℕ) (start : List Deed) (places : List Placed) → HasRun disk_says old since start places → HasRun disk_says new since start places
  pub stood : HaveStood disk_says old new

-- A request got its place: the rows after it, and the groups of the journal, are those before with the changes of its outcome, or the same at a fault place.
pub record GrowsBy {D : Type 0} (disk_says : DiskSays D) (request : Request) (fault : Bool) (old new : SerialDepot D) : Type 0 where
  pub outcome : Outcome
  pub is : IsOutcomeOf (rows_of old.tables) old.tables.archive_end request outcome
  pub rows : AreRowsAfter (rows_of old.tables) outcome.changes fault (rows_of new.tables)
  pub groups : (d : List Deed) (c : Chronicle) → Stand (rows_of old.tables) d → HasGroups disk_says old.journal c → HasGroups disk_says new.journal (grown (opens_generation request) fault outcome.changes c)
