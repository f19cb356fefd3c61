-- What was read of the files of a generation, whether the disk tells what its files are or not.
use Rattle.std.specs.Prelude.{◌≡◌, ◌<◌, ◌≤◌, ◌+◌, ◌*◌, ◌^◌, ℕ, List, [], ◌∷◌, ◌++◌, length, Option, Some, None}
use Rattle.std.specs.List.{AllByRecursion}
use Rattle.outside_api.specs.Disk.{Files}
use Rattle.depot_rows.specs.db_records.declared.change.Change.{Change}
use Rattle.disk_journal.specs.Images.{Committed, Begins, IsAtRest}
use Rattle.disk_journal.specs.Text.{AreGroups, blocks}
use Rattle.journal_groups.specs.Committed.{HasGroups}
use Rattle.record_text.specs.Grammar.{largest_wide}
use Rattle.journal_groups.specs.Groups.{AreRecords, IsGroup, body_of, group_text, groups_text, head_of}
use Rattle.depot_rows.specs.table_changes.Changed.{AllRows, AllFitIn, changed_by, no_rows, rows_of}
use Rattle.recovery.specs.Holding.{ArePuts, HasAllRows, joined}
use Rattle.recovery.specs.Pieces.{KnowsEnd, text_left}
use Rattle.recovery.specs.declared.pieces.FileGroups.{FileGroups}
use Rattle.recovery.specs.declared.depot.Found.{Found}
use Rattle.recovery.specs.declared.rows.JournalEnd.{JournalEnd}

-- puts that fit, as a group
pub record IsCheckpoint (puts : List Change) : Type 0 where
  pub are_puts : ArePuts puts
  pub is_group : IsGroup puts
  pub fit : AllFitIn no_rows puts

-- the rows of a checkpoint, with which its file begins
pub record HasCheckpoint (seen : Files → Type 0) (generation : ℕ) (rows : AllRows) : Type 0 where
  pub puts : List Change
  pub is : IsCheckpoint puts
  pub rows_are : rows ≡ changed_by no_rows puts
  pub text : (files : Files) → seen files → Begins (group_text generation puts) (files (2 + 2 * generation))

-- the last of some changes, where there is one
abbrev pub IsLastOf : List Change → Option Change → Type 0
IsLastOf changes None = changes ≡ []
IsLastOf changes (Some last) = (front : List Change) × (changes ≡ front ++ last ∷ [])

-- these rows are left where there were none and all of some changes were made but the last
abbrev pub AllButLast : List Change → Option Change → AllRows → Type 0
AllButLast changes None rows = (changes ≡ []) × (rows ≡ no_rows)
AllButLast changes (Some last) rows = (front : List Change) × ((changes ≡ front ++ last ∷ []) × (rows ≡ changed_by no_rows front))

-- these puts were made where there were no rows, but for the last, which waits
pub record HasPut (puts : List Change) (waiting : Option Change) (rows : AllRows) : Type 0 where
  pub are_puts : ArePuts puts
  pub all_but_last : AllButLast puts waiting rows

-- the head of the checkpoint of a generation and records were taken of its file, and so many bytes of records are to come
pub record HasTaken (seen : Files → Type 0) (generation : ℕ) (groups : FileGroups) (left : ℕ) (records : List Change) : Type 0 where
  pub size : ℕ
  pub wide : size ≤ largest_wide
  pub are_records : AreRecords records
  pub sizes : size ≡ length (body_of records) + left
  pub at : groups.reader.at ≡ length (head_of generation size) + length (body_of records)
  pub front : groups.front ≡ 0
  pub of_file : groups.file ≡ 2 + 2 * generation
  pub text : (files : Files) → seen files → KnowsEnd groups files × (files (2 + 2 * generation) ≡ head_of generation size ++ (body_of records ++ text_left groups files))

-- the groups that were read so far, from some rows to others
pub record SoFar (seen : Files → Type 0) (file count : ℕ) (groups : FileGroups) (old new : AllRows) : Type 0 where
  pub done : List (List Change)
  pub are_groups : AllByRecursion IsGroup done
  pub fit : AllFitIn old (joined done)
  pub rows_are : new ≡ changed_by old (joined done)
  pub count_is : count ≡ length done
  pub number : groups.reader.number ≡ 1 + length done
  pub at : groups.reader.at ≡ length (groups_text 1 done)
  pub of_file : groups.file ≡ file
  pub text : (files : Files) → seen files → KnowsEnd groups files × (files file ≡ groups_text 1 done ++ text_left groups files)

-- the groups of a journal's file, from some rows to others, and how many groups and bytes they are
pub record HasJournal (seen : Files → Type 0) (file : ℕ) (end : JournalEnd) (old new : AllRows) : Type 0 where
  pub groups : List (List Change)
  pub are_groups : AllByRecursion IsGroup groups
  pub fit : AllFitIn old (joined groups)
  pub rows_are : new ≡ changed_by old (joined groups)
  pub count : end.groups ≡ length groups
  pub long : end.length ≡ length (groups_text 1 groups)
  pub short : end.length + 5 < 2 ^ 63
  pub text : (files : Files) → seen files → HasGroups 1 (files file) groups

-- what the disk of the journal has: what is committed, with the rows of the tables, and at rest in the files that it tells
pub record HasFound (seen : Files → Type 0) (found : Found) : Type 0 where
  pub was : Committed
  pub has : HasAllRows was (rows_of found.tables)
  pub generation : found.generation ≡ was.generation
  pub last : was.generation ≤ 4095
  pub are_groups : AreGroups was.groups
  pub count : found.end.groups ≡ length was.groups
  pub long : found.end.length ≡ length (blocks was.groups)
  pub short : found.end.length + 5 < 2 ^ 63
  pub at_rest : (files : Files) → seen files → IsAtRest was files
