-- What a replica's turn leaves of a depot. This project's own choice.
use Rattle.std.specs.Prelude.{◌≡◌, ◌≤◌, ℕ, List}
use Rattle.outside_api.specs.Says.{DiskSays}
use Rattle.archive_file.specs.Archive as archives
use Rattle.depot_rows.specs.depot_model.Deeds.{Deed}
use Rattle.depot_rows.specs.depot_model.Places.{Placed}
use Rattle.disk_journal.specs.Stands.{disk_of}
use Rattle.depot_commit.specs.Growing.{Chronicle, HasGroups, KeepsStored}
use Rattle.serial_depot.specs.Running.{CanTake, HasRun}
use Rattle.serial_depot.specs.declared.depot.SerialDepot.{SerialDepot}

-- The depot has taken the commands that it had taken, and its rows, its journal's groups and its contents are the same; at most the counts of faults of its
-- disks rose.
pub record IsUnmoved {D : Type 0} (disk_says : DiskSays D) (old new : SerialDepot D) : Type 0 where
  pub can : CanTake disk_says old → CanTake disk_says new
  pub ran : (since : ℕ) (start : List Deed) (places : List Placed) → HasRun disk_says old since start places → HasRun disk_says new since start places
  pub tables : new.tables ≡ old.tables
  pub groups : (c : Chronicle) → HasGroups disk_says old.journal c → HasGroups disk_says new.journal c
  pub stored : KeepsStored disk_says old.archive new.archive
  pub never_falls : disk_says.faults (disk_of old.journal) ≤ disk_says.faults (disk_of new.journal)
  pub never_falls_contents : disk_says.faults (archives.disk_of old.archive) ≤ disk_says.faults (archives.disk_of new.archive)
