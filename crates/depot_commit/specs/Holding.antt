-- When images of the two disks stand for a depot. That the counter `journal` is the generation is this project's own choice.
use Rattle.std.specs.Prelude.{◌≡◌, ℕ, ◌≤◌, List, length}
use Rattle.outside_api.specs.Disk.{Files}
use Rattle.depot_rows.specs.db_records.declared.table.TableId.TheVariants.{Rev}
use Rattle.disk_journal.specs.Images.{Committed, HasCommitted}
use Rattle.depot_rows.specs.table_changes.Changed.{AllRows}
use Rattle.depot_rows.specs.depot_model.Deeds.{Deed}
use Rattle.depot_runs.specs.Kept.{IsKept}
use Rattle.depot_rows.specs.depot_model.Places.{Placed}
use Rattle.depot_rows.specs.Standing.{Stand}
use Rattle.recovery.specs.Holding.{HasAllRows, spots_end}
use Rattle.recovery.specs.Rules.{DeletesAreUnplaced}
use Rattle.recovery.specs.Standing.{HasContents}
use Rattle.step_limits.specs.Limits.{generation_in}

-- An image of the archive's disk has the contents of the depot at the spots of these rows, and no spot ends behind it.
pub record HasItsContents (rows : AllRows) (d : List Deed) (archive : Files) : Type 0 where
  pub within : spots_end (rows Rev) ≤ length (archive 0)
  pub contents : HasContents (archive 0) rows d

-- each of these images has them
abbrev pub AllHaveContents : (Files → Type 0) → AllRows → List Deed → Type 0
AllHaveContents archives rows d = (archive : Files) → archives archive → HasItsContents rows d archive

-- No spot of these rows ends behind a place of the archive, deleted revisions have no place, and each of these images has the contents of the depot.
pub record KeepContents (archives : Files → Type 0) (used : ℕ) (rows : AllRows) (d : List Deed) : Type 0 where
  pub ends : spots_end (rows Rev) ≤ used
  pub deletes : DeletesAreUnplaced (rows Rev)
  pub contents : AllHaveContents archives rows d

-- An image of the journal's disk stands for the depot with each of these images of the archive's disk, which is used up to a place.
pub record StandsWith (archives : Files → Type 0) (used : ℕ) (journal : Files) (d : List Deed) : Type 0 where
  pub was : Committed
  pub committed : HasCommitted was journal
  pub rows : AllRows
  pub has : HasAllRows was rows
  pub stand : Stand rows d
  pub generation : generation_in d ≡ was.generation
  pub kept : KeepContents archives used rows d

-- an image of some moment: with these images of the archive's disk it is kept for some of the first places
abbrev pub IsKeptSometime : (Files → Type 0) → ℕ → List Deed → List Placed → Files → Type 0
IsKeptSometime archives used start places journal = (k : ℕ) × (k ≤ length places) × IsKept (StandsWith archives used journal) start places k
