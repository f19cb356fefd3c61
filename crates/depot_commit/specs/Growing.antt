-- The groups of a depot's journal, and how they grow. That a place writes at most one group, or opens a generation, is this project's own choice.
use Rattle.std.specs.Prelude.{◌≡◌, ◌≤◌, ℕ, Bool, true, false, List, [], ◌∷◌, ◌++◌, map}
use Rattle.std.specs.List.{AllByRecursion}
use Rattle.outside_api.specs.Moments.{LeavesOnly}
use Rattle.outside_api.specs.Says.{DiskSays}
use Rattle.archive_file.specs.Archive.{disk_of, used_of}
use Rattle.archive_file.specs.declared.archive.Archive.{Archive}
use Rattle.depot_rows.specs.db_records.declared.change.Change.{Change}
use Rattle.disk_journal.specs.Images.{Committed}
use Rattle.disk_journal.specs.Keeping.{KeepsOlder}
use Rattle.disk_journal.specs.Stands.{Doubtful, HasWithOrWithout, Stands, disk_of as journal_disk_of, group, nothing, opening}
use Rattle.disk_journal.specs.declared.journal.Journal.{Journal}
use Rattle.journal_groups.specs.Groups.{IsGroup, group_text}
pub use Rattle.recovery.specs.Chronicle.{Chronicle, generations_of}
use Rattle.recovery.specs.Holding.{group_texts}
use Rattle.depot_commit.specs.Storing.{KeepsBelow}
use Rattle.depot_commit.specs.Writing.{StandsBy}

-- ---- the groups of all generations

-- The journal's disk tells what it reads, and each image of it has these groups in the file of each generation. What is in doubt is none of them.
pub record HasGroups {D : Type 0} (disk_says : DiskSays D) (journal : Journal D) (c : Chronicle) : Type 0 where
  pub was : Committed
  pub doubt : Doubtful
  pub stands : Stands disk_says journal was doubt
  pub keeps : KeepsOlder disk_says journal (map (group_texts 1) c.closed)
  pub are : was.groups ≡ group_texts 1 c.newest
  pub are_groups : AllByRecursion (AllByRecursion IsGroup) (generations_of c)

-- ---- how they grow

-- what was written is the group of changes, by its number; or, where a generation is opened, its checkpoint
abbrev pub IsWritten : ℕ → Bool → Doubtful → List Change → Type 0
IsWritten number false written changes = (written ≡ group (group_text number changes)) × IsGroup changes
IsWritten number true written changes = (checkpoint : List ℕ) × (written ≡ opening checkpoint)

-- the groups before the newest generation, after what was written or whose writing failed
abbrev pub older_after : Committed → List (List (List ℕ)) → Doubtful → Bool → List (List (List ℕ))
older_after was older written true = older
older_after was older nothing false = older
older_after was older (group text) false = older
older_after was older (opening checkpoint) false = older ++ was.groups ∷ []

-- A journal at which nothing was in doubt wrote, or its disk failed at that: each moment since left what was committed, with what is written or without, and the groups of older generations are kept.
pub record HasWritten {D : Type 0} (disk_says : DiskSays D) (was : Committed) (written : Doubtful) (failed : Bool) (old new : Journal D) : Type 0 where
  pub stands : StandsBy disk_says new was written failed
  pub any_moment : LeavesOnly disk_says (journal_disk_of old) (journal_disk_of new) (HasWithOrWithout was written)
  pub keeps : (older : List (List (List ℕ))) → KeepsOlder disk_says old older → KeepsOlder disk_says new (older_after was older written failed)

-- one group more; or, where a generation is opened, the newest is closed and the next one begins
abbrev pub with_changes : Bool → List Change → Chronicle → Chronicle
with_changes false changes c = record { closed = c.closed; newest = c.newest ++ changes ∷ [] }
with_changes true changes c = record { closed = c.closed ++ c.newest ∷ []; newest = [] }

-- the same, or none where the writing failed
abbrev pub landed : Bool → Bool → List Change → Chronicle → Chronicle
landed opens true changes c = c
landed opens false changes c = with_changes opens changes c

-- a place without changes writes nothing
abbrev pub grown : Bool → Bool → List Change → Chronicle → Chronicle
grown opens fault [] c = c
grown opens fault (change ∷ changes) c = landed opens fault (change ∷ changes) c

-- ---- the contents

-- the archive keeps what lies below the end of what was used of it, and this end doesn't fall
pub record KeepsStored {D : Type 0} (disk_says : DiskSays D) (old new : Archive D) : Type 0 where
  pub below : KeepsBelow (disk_says.may_leave (disk_of old)) (disk_says.may_leave (disk_of new)) (used_of old)
  pub more : used_of old ≤ used_of new
