-- What a node has of the depot that it follows: whole changes, from the first on, and the contents that they name (Server Administrator Guide, "Replication";
-- how a node follows, and that contents come before the group that names them, is this project's own choice).
use Rattle.std.specs.Prelude.{◌≡◌, ◌≤◌, ◌<◌, ℕ, ◌+◌, ◌*◌, ◌^◌, List, length, map, take}
use Rattle.std.specs.List.{AllByRecursion, concat}
use Rattle.outside_api.specs.Disk.{Files}
use Rattle.outside_api.specs.Says.{DiskSays}
use Rattle.archive_file.specs.Archive.{AllHave, disk_of as archive_disk_of, used_of}
use Rattle.archive_file.specs.declared.archive.Archive.{Archive}
use Rattle.depot_rows.specs.db_records.declared.change.Change.{Change}
use Rattle.depot_rows.specs.db_records.declared.table.TableId.TheVariants.{Rev}
use Rattle.depot_rows.specs.table_changes.Changed.{AllRows, rows_of}
use Rattle.disk_journal.specs.Images.{Committed, with_generation, with_group}
use Rattle.disk_journal.specs.Keeping.{KeepsOlder}
use Rattle.disk_journal.specs.Stands.{Doubtful, nothing, group, opening, Stands, disk_of, generation_of_journal}
use Rattle.journal_groups.specs.Groups.{IsGroup, group_text, groups_text}
use Rattle.recovery.specs.Contents.{AreWhole}
use Rattle.recovery.specs.Holding.{HasAllRows, group_texts, spots_end}
use Rattle.replica_chain.specs.Chronicle.{Chronicle, changes_of, generations_of, rows_made, with_beginning, with_changes}
use Rattle.replica_chain.specs.Ends.{IsScanned}
use Rattle.replica_chain.specs.declared.node.Node.{Node}
use Rattle.replica_chain.specs.declared.node.Pair.{Pair}

-- ---- what is in doubt

-- what is committed, with what is in doubt
abbrev pub with_doubt : Committed → Doubtful → Committed
with_doubt was nothing = was
with_doubt was (group text) = with_group was text
with_doubt was (opening checkpoint) = with_generation was checkpoint

-- The changes with those that are in doubt: none, one group more, or the beginning of the next generation.
abbrev pub IsPending : Chronicle → Doubtful → Chronicle → Type 0
IsPending c nothing pending = pending ≡ c
IsPending c (group text) pending = (changes : List Change) × IsGroup changes × (text ≡ group_text (1 + length c.newest) changes) × (pending ≡ with_changes c changes)
IsPending c (opening checkpoint) pending = pending ≡ with_beginning c

-- ---- the archive

-- each image of an archive reaches as far as a place
abbrev pub AllReach : (Files → Type 0) → ℕ → Type 0
AllReach images place = (image : Files) → images image → place ≤ length (image 0)

-- Up to a place an archive has the first of these bytes, in each image.
pub record HasFrontTo (images : Files → Type 0) (place : ℕ) (bytes : List ℕ) : Type 0 where
  pub within : place ≤ length bytes
  pub has : AllHave images (record { at = 0; length = place }) (take place bytes)

-- Each image of an archive has the same bytes as far as it is used. The spots of the rows end there, and these are their contents.
pub record HasContentsOf {D : Type 0} (disk_says : DiskSays D) (archive : Archive D) (rows : AllRows) : Type 0 where
  pub bytes : List ℕ
  pub front : HasFrontTo (disk_says.may_leave (archive_disk_of archive)) (used_of archive) bytes
  pub ends : spots_end (rows Rev) ≤ used_of archive
  pub whole : AreWhole bytes (rows Rev)

-- ---- a node

-- its two disks
abbrev pub files_of : {D : Type 0} → Node D → Pair D
files_of node = record { journal = disk_of node.link.journal; archive = archive_disk_of node.archive }

-- The node has these changes: each image of its journal's disk has their groups, its rows are those that they make, and its archive has the contents. It counts
-- the changes, and the bytes of their texts. What is in doubt is none of them, and its contents are there too.
pub record IsNode {D : Type 0} (disk_says : DiskSays D) (node : Node D) (c : Chronicle) : Type 0 where
  pub was : Committed
  pub doubt : Doubtful
  pub stands : Stands disk_says node.link.journal was doubt
  pub keeps : KeepsOlder disk_says node.link.journal (map (group_texts 1) c.closed)
  pub scanned : IsScanned disk_says node.link
  pub are : was.groups ≡ group_texts 1 c.newest
  pub are_groups : AllByRecursion (AllByRecursion IsGroup) (generations_of c)
  pub has : HasAllRows was (rows_made c)
  pub pending : Chronicle
  pub is_pending : IsPending c doubt pending
  pub pending_has : HasAllRows (with_doubt was doubt) (rows_made pending)
  pub rows : rows_of node.tables ≡ rows_made c
  pub tells : (files : Files) × disk_says.seen (archive_disk_of node.archive) files
  pub contents : HasContentsOf disk_says node.archive (rows_made c)
  pub pending_contents : HasContentsOf disk_says node.archive (rows_made pending)
  pub before : node.before ≡ length (concat (map (groups_text 1) c.closed))
  pub at : node.at ≡ length (groups_text 1 c.newest)
  pub number : node.number ≡ 1 + length c.newest
  pub changes : node.changes ≡ length (changes_of c)

-- A node can follow: what is committed of its journal is known, and what is in doubt; each image of its archive reaches as far as it is used, which is fewer than
-- 2 ^ 63 bytes; and its counts are those of a text of fewer than 2 ^ 63 bytes, five for each group's mark.
pub record CanFollow {D : Type 0} (disk_says : DiskSays D) (node : Node D) : Type 0 where
  pub was : Committed
  pub doubt : Doubtful
  pub stands : Stands disk_says node.link.journal was doubt
  pub archive_end : used_of node.archive < 2 ^ 63
  pub room : AllReach (disk_says.may_leave (archive_disk_of node.archive)) (used_of node.archive)
  pub short : node.before + node.at + length node.rest < 2 ^ 63
  pub numbered : 5 * node.number ≤ 5 + node.at
  pub counted : node.changes ≤ node.before + node.at + generation_of_journal node.link.journal

-- nothing is in doubt of a node's journal
abbrev pub IsSettled : {D : Type 0} → DiskSays D → Node D → Type 0
IsSettled disk_says node = (was : Committed) × Stands disk_says node.link.journal was nothing
