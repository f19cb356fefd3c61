-- When a pair of images, of the journal's disk and of the archive's, is that of a depot as it was written from the first change on, and how a run goes on from what
-- was done before it.
use Rattle.std.specs.Prelude.{◌≡◌, ◌⊎◌, ◌≤◌, ◌<◌, ◌+◌, ℕ, List, [], length, map}
use Rattle.outside_api.specs.Disk.{Files}
use Rattle.outside_api.specs.Says.{DiskSays}
use Rattle.depot_rows.specs.db_records.declared.table.TableId.TheVariants.{Rev}
use Rattle.depot_rows.specs.depot_model.Commands.{step}
use Rattle.depot_rows.specs.depot_model.Deeds.{Deed}
use Rattle.depot_rows.specs.depot_model.Places.{Placed, taken}
use Rattle.depot_rows.specs.Standing.{Stand}
use Rattle.depot_rows.specs.table_changes.Changed.{AllRows, changed_by, no_rows}
use Rattle.depot_runs.specs.Kept.{KeptInDoubt}
use Rattle.disk_journal.specs.Images.{Committed, HasCommitted}
use Rattle.disk_journal.specs.Older.{AreOlder}
use Rattle.recovery.specs.Holding.{HasAllRows, group_texts, joined, spots_end}
use Rattle.recovery.specs.Rules.{DeletesAreUnplaced}
use Rattle.recovery.specs.Standing.{StandFor}
use Rattle.depot_commit.specs.Growing.{Chronicle}
use Rattle.depot_commit.specs.Holding.{HasItsContents}
use Rattle.replica_turns.specs.Master.{AllFit, AreChanges, AreGroupsOf, IsNth, Past, all_changes, first_of}

-- ---- an image of the journal's disk

-- the rows that all changes make
abbrev pub rows_made : Chronicle → AllRows
rows_made c = changed_by no_rows (joined (all_changes c))

-- It has these groups, each generation's in its file and no others of the newest, which make the rows that it holds; and nothing is in doubt.
pub record HasJournal (c : Chronicle) (journal : Files) : Type 0 where
  pub are_groups : AreGroupsOf c
  pub older : AreOlder (map (group_texts 1) c.closed) journal
  pub was : Committed
  pub committed : HasCommitted was journal
  pub generation : was.generation ≡ length c.closed
  pub newest : was.groups ≡ group_texts 1 c.newest
  pub has : HasAllRows was (rows_made c)

-- ---- a pair

-- The rows after so many changes stand for a depot, and the archive has its contents at their spots, none of which ends behind those of other rows.
pub record IsDepotThen (archive : Files) (rows now : AllRows) (d : List Deed) : Type 0 where
  pub stand : Stand rows d
  pub deletes : DeletesAreUnplaced (rows Rev)
  pub within : spots_end (rows Rev) ≤ spots_end (now Rev)
  pub contents : HasItsContents rows d archive

-- The journal's image has these changes, as many as are counted, and before the last of them there was a depot after each number of them.
pub record WasWritten (past : Past) (journal archive : Files) : Type 0 where
  pub has : HasJournal past.journal journal
  pub count : length (all_changes past.journal) ≡ past.count
  pub each : (n : ℕ) → n < past.count → IsDepotThen archive (first_of n past.journal) (rows_made past.journal) (past.after n)

-- nothing was done before
abbrev pub nothing_done : Past
nothing_done = record { count = 0; after = λ n. []; journal = record { closed = []; newest = [] } }

-- ---- two disks

-- Both tell what they read, and each pair of images that they may leave is so.
pub record Leave {D : Type 0} (disk_says : DiskSays D) (journal archive : D) (IsSo : Files → Files → Type 0) : Type 0 where
  pub journal_tells : (files : Files) × disk_says.seen journal files
  pub archive_tells : (files : Files) × disk_says.seen archive files
  pub pairs : (j a : Files) → disk_says.may_leave journal j → disk_says.may_leave archive a → IsSo j a

-- they read as a pair that was written so
abbrev pub AreWritten : {D : Type 0} → DiskSays D → D → D → Past → Type 0
AreWritten disk_says journal archive past = (j a : Files) → disk_says.seen journal j → disk_says.seen archive a → WasWritten past j a

-- ---- how it goes on

-- So it was done now: what was done before, then the changes among these places, and so many more. They fit where those before did.
pub record GoesOn (past : Past) (start : List Deed) (places : List Placed) (more : ℕ) (now : Past) : Type 0 where
  pub changes : ℕ
  pub count : now.count ≡ past.count + changes + more
  pub are_changes : AreChanges changes start places
  pub each : (n : ℕ) → n < now.count → IsNth past start places n (now.after n)
  pub fit : AllFit past.journal → AllFit now.journal

-- the pair was written so, and stands for this depot
pub record IsWrittenAfter (past : Past) (start : List Deed) (places : List Placed) (more : ℕ) (depot : List Deed) (journal archive : Files) : Type 0 where
  pub now : Past
  pub goes_on : GoesOn past start places more now
  pub written : WasWritten now journal archive
  pub stands : StandFor depot journal archive

-- the pair was written so after the places, or with what one fault place among them would have done, which is one change more
abbrev pub PairGoesOn : Past → List Deed → List Placed → Files → Files → Type 0
PairGoesOn past start places journal archive =
    IsWrittenAfter past start places 0 (taken step start places) journal archive ⊎ KeptInDoubt (λ d. IsWrittenAfter past start places 1 d journal archive) start places
