-- Where damaged files are damaged. What is checked, and that the first place is told, is this project's own choice.
use Rattle.std.specs.Prelude.{◌≡◌, ◌⊎◌, ℕ, ◌+◌, ◌-◌, ◌*◌, ◌<◌, ◌≤◌, List, ◌++◌, length, take}
use Rattle.std.specs.List.{AllByRecursion}
use Rattle.outside_api.specs.Disk.{Files}
use Rattle.depot_rows.specs.db_records.declared.change.Change.{Change}
use Rattle.depot_rows.specs.db_records.declared.table.TableId.TheVariants as tables
use Rattle.disk_journal.specs.Images.{Committed, HasCommitted, Begins, IsRoot}
use Rattle.disk_journal.specs.Text.{blocks}
use Rattle.journal_groups.specs.Groups.{GroupBegins, IsGroup, group_text, groups_text}
use Rattle.journal_groups.specs.Causes.{GroupGoesOn, GroupStopsAt}
use Rattle.depot_rows.specs.table_changes.Changed.{AllRows, AllFitIn, changed_by, no_rows}
use Rattle.recovery.specs.Contents.{IsSpotDamage}
use Rattle.recovery.specs.Holding.{ArePuts, HasAllRows, Hold, joined}
use Rattle.recovery.specs.Pieces.{AreAllGood, IsBadRecord, IsTextDamage}
use Rattle.recovery.specs.Reading.{IsCheckpoint}
use Rattle.recovery.specs.Rules.{SuitFiles}
use Rattle.recovery.specs.declared.fault.DepotDisk.{DepotDisk}
use Rattle.recovery.specs.declared.fault.DepotDisk.TheVariants.{Journal, Archive}

-- bytes with which a root may begin
pub record BeginsRoot (front : List ℕ) : Type 0 where
  pub generation : ℕ
  pub more : List ℕ
  pub root : IsRoot generation (front ++ more)

-- the first byte with which a file's bytes are no longer those of a root, or the end of a file that is too short for one
pub record IsRootDamage (file : List ℕ) (place : ℕ) : Type 0 where
  pub none : (generation : ℕ) → IsRoot generation file → ⊥
  pub within : place ≤ length file
  pub goes_on : BeginsRoot (take place file)
  pub stops : place < length file → BeginsRoot (take (place + 1) file) → ⊥

-- The place in a checkpoint of its first record that is no put above those before it; or, where there is none, the first byte that no group of the
-- generation goes on from, or the end of a file that is too short for one.
abbrev pub IsCheckpointDamage : ℕ → List ℕ → ℕ → Type 0
IsCheckpointDamage generation file place =
    IsBadRecord ArePuts (GroupBegins generation 0 file) place
    ⊎ (AreAllGood ArePuts (GroupBegins generation 0 file) × (GroupStopsAt generation file (length file - place) ⊎ (GroupGoesOn generation file × (place ≡ length file))))

-- The file begins with groups, whose changes fit these rows. Of what is behind them the place is that of the next group's first record that doesn't fit;
-- or, where there is none, the first byte that no text goes on from, or the end of a text that is too short.
pub record IsJournalDamage (rows : AllRows) (file : List ℕ) (place : ℕ) : Type 0 where
  pub groups : List (List Change)
  pub are_groups : AllByRecursion IsGroup groups
  pub fit : AllFitIn rows (joined groups)
  pub behind : List ℕ
  pub parts : file ≡ groups_text 1 groups ++ behind
  pub next : IsTextDamage (AllFitIn (changed_by rows (joined groups))) (1 + length groups) (length (groups_text 1 groups)) behind place

-- The rows that the files hold don't suit them: they break a rule, or tell another generation. The place is the end of the journal's committed text.
pub record IsRulesDamage (journal : Files) (file place : ℕ) : Type 0 where
  pub was : Committed
  pub rows : AllRows
  pub committed : HasCommitted was journal
  pub has : HasAllRows was rows
  pub broken : SuitFiles was.generation rows → ⊥
  pub file_is : file ≡ 1 + 2 * was.generation
  pub place_is : place ≡ length (blocks was.groups)

-- The first place of a file of the journal's disk: of the root; else of the checkpoint of its generation; else of the journal; else of the rules.
pub data IsJournalDiskDamage (journal : Files) (file place : ℕ) : Type 0 where
  of_root : file ≡ 0 → IsRootDamage (journal 0) place → IsJournalDiskDamage journal file place
  of_checkpoint : (generation : ℕ) → IsRoot generation (journal 0) → file ≡ 2 + 2 * generation → IsCheckpointDamage generation (journal (2 + 2 * generation)) place → IsJournalDiskDamage journal file place
  of_journal : (generation : ℕ) (puts : List Change) → IsRoot generation (journal 0) → IsCheckpoint puts → Begins (group_text generation puts) (journal (2 + 2 * generation)) → file ≡ 1 + 2 * generation
      → IsJournalDamage (changed_by no_rows puts) (journal (1 + 2 * generation)) place → IsJournalDiskDamage journal file place
  of_rules : IsRulesDamage journal file place → IsJournalDiskDamage journal file place

-- the place of the first bad spot of the rows that the files hold, by path and then by revision; the rows suit the files
pub record IsArchiveDamage (journal archive : Files) (place : ℕ) : Type 0 where
  pub rows : AllRows
  pub hold : Hold journal rows
  pub suit : SuitFiles hold.was.generation rows
  pub spot : IsSpotDamage (archive 0) (rows tables.Rev) place

-- the files are damaged at a place of a file of this disk
abbrev pub IsDamage : Files → Files → DepotDisk → ℕ → ℕ → Type 0
IsDamage journal archive Journal file place = IsJournalDiskDamage journal file place
IsDamage journal archive Archive file place = (file ≡ 0) × IsArchiveDamage journal archive place
