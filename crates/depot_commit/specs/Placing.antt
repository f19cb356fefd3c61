-- Giving a command its place over the parts of a depot in files. This project's own choice.
use Rattle.std.specs.Prelude.{◌≡◌, ℕ, true, false, List, [], if◌then◌else◌}
use Rattle.outside_api.specs.Count.{HasRisen}
use Rattle.outside_api.specs.Disk.{Files, StillTells}
use Rattle.outside_api.specs.Says.{DiskSays}
use Rattle.archive_file.specs.Archive.{disk_of, used_of}
use Rattle.archive_file.specs.declared.archive.Archive.{Archive}
use Rattle.depot_rows.specs.depot_model.Commands.{step}
use Rattle.depot_rows.specs.depot_model.Deeds.{Deed}
use Rattle.depot_rows.specs.depot_model.Places.{Placed}
use Rattle.depot_rows.specs.depot_model.Step.{after}
use Rattle.depot_rows.specs.depot_model.declared.request.Request.{Request}
use Rattle.depot_rows.specs.Standing.{Stand}
use Rattle.depot_rows.specs.table_changes.Changed.{AllRows}
use Rattle.depot_rows.specs.table_store.declared.tables.Tables.{Tables}
use Rattle.disk_journal.specs.declared.journal.Journal.{Journal}
use Rattle.depot_commit.specs.Running.{HasRunOver}
use Rattle.depot_commit.specs.Storing.{AllReach, AllStored, HasStored, KeepsBelow, stores_end}
use Rattle.depot_commit.specs.declared.landing.Landed.{Landed}
use Rattle.depot_commit.specs.declared.telling.Told.{Told}

-- The run beside an archive whose disk might leave these images when it was used up to a place, and in which these contents were stored since.
abbrev pub HasRunBeside : {D : Type 0} → DiskSays D → (Files → Type 0) → ℕ → List (List ℕ) → Tables → Journal D → ℕ → List Deed → List Placed → Type 0
HasRunBeside disk_says images from stores = HasRunOver disk_says (HasStored images from stores) (stores_end stores from)

-- an archive is used up to a place, and each image reaches as far
abbrev pub EndsAt : {D : Type 0} → DiskSays D → Archive D → ℕ → Type 0
EndsAt disk_says archive used = (used_of archive ≡ used) × AllReach (disk_says.may_leave (disk_of archive)) used

-- An archive keeps what ends at or before a place, its disk tells what it told, and as much of it counts as used as did.
pub record KeepsUsed {D : Type 0} (disk_says : DiskSays D) (place : ℕ) (old new : Archive D) : Type 0 where
  pub kept : KeepsBelow (disk_says.may_leave (disk_of old)) (disk_says.may_leave (disk_of new)) place
  pub told : StillTells (disk_says.seen (disk_of old)) (disk_says.seen (disk_of new))
  pub used : used_of new ≡ used_of old

-- Contents were stored behind what was used of an archive, and count as used; what was there is kept.
pub record StoresBehind {D : Type 0} (disk_says : DiskSays D) (stored : List (List ℕ)) (old new : Archive D) : Type 0 where
  pub used : used_of new ≡ stores_end stored (used_of old)
  pub kept : KeepsBelow (disk_says.may_leave (disk_of old)) (disk_says.may_leave (disk_of new)) (used_of old)
  pub all : AllStored (disk_says.may_leave (disk_of new)) stored (used_of old)
  pub room : AllReach (disk_says.may_leave (disk_of new)) (used_of new)
  pub tells : StillTells (disk_says.seen (disk_of old)) (disk_says.seen (disk_of new))

-- A command has its place: what it stored is behind what was used, and counts as used, and with nothing to store nothing is stored; it changed what is told, unless
-- the place is that of a fault.
pub record HasLanded {S : Type 0} (stores : List (List ℕ) → S → S → Type 0) (told : Told) (landed : Landed) (used used_now : ℕ) (store store_now : S) : Type 0 where
  pub stored : stores landed.stored store store_now
  pub end : used_now ≡ stores_end landed.stored used
  pub none : told.stores ≡ [] → landed.stored ≡ []
  pub changes : landed.changes ≡ (if landed.answer.place.fault then [] else told.changes)

-- What a place says of the counts of the disks of the journal and of the archive. Where it isn't that of a fault, no call failed, and all contents were read.
-- Where it is and the archive's disk didn't fail, the journal's did. Where that failed after all contents were read, its count has risen.
pub record AreCounted (told : Told) (landed : Landed) (before now contents_before contents_now : ℕ) : Type 0 where
  pub only : landed.answer.place.fault ≡ false → now ≡ before
  pub only_contents : landed.answer.place.fault ≡ false → contents_now ≡ contents_before
  pub read : landed.answer.place.fault ≡ false → told.unread ≡ false
  pub cause : landed.answer.place.fault ≡ true → landed.lost ≡ false → HasRisen before now
  pub cause_contents : landed.lost ≡ true → told.unread ≡ false → HasRisen contents_before contents_now
  pub lost : landed.lost ≡ true → landed.answer.place.fault ≡ true

-- a request leaves the rows of each depot that has these rows
abbrev pub LeavesRows : AllRows → Request → Type 0
LeavesRows rows request = (d : List Deed) → Stand rows d → Stand rows (after d (step d request).deeds)
