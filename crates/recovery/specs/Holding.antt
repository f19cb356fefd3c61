-- What the files of a depot hold (System Administrator Guide, "Backup and recovery"; the layout of the files is this project's own choice).
use Rattle.std.specs.Prelude.{◌≡◌, ◌≤◌, ℕ, suc, ◌+◌, ◌++◌, List, [], ◌∷◌, length, map, flat_map, max}
use Rattle.std.specs.List.{AllByRecursion}
use Rattle.outside_api.specs.Disk.{Files}
use Rattle.depot_rows.specs.db_records.declared.change.Change.{Change}
use Rattle.depot_rows.specs.db_records.declared.change.Op.TheVariants.{Put}
use Rattle.depot_rows.specs.db_records.declared.record.Record.{Record}
use Rattle.depot_rows.specs.db_records.declared.record.Record.TheVariants.{Rev}
use Rattle.depot_rows.specs.db_records.declared.table.TableId.{TableId}
use Rattle.depot_rows.specs.db_records.declared.table.TableId.TheVariants as tables
use Rattle.journal_groups.specs.Groups.{group_text, IsGroup}
use Rattle.disk_journal.specs.Images.{Committed, HasCommitted}
use Rattle.depot_rows.specs.table_store.Rows.{IsRising}
use Rattle.depot_rows.specs.table_changes.Changed.{AllRows, AllFitIn, changed_by, no_rows}

-- the texts of groups, numbered from this number on
abbrev pub group_texts : ℕ → List (List Change) → List (List ℕ)
group_texts number [] = []
group_texts number (changes ∷ groups) = group_text number changes ∷ group_texts (suc number) groups

abbrev pub joined : List (List Change) → List Change
joined groups = flat_map (λ changes. changes) groups

abbrev pub rows_put : List Change → List Record
rows_put changes = map (λ change. change.row) changes

-- puts of rows, tables and keys rising
pub record ArePuts (changes : List Change) : Type 0 where
  pub all_put : AllByRecursion (λ change. change.op ≡ Put) changes
  pub rising : IsRising (rows_put changes)

-- What is committed, as changes: the checkpoint's puts and the journal's groups.
pub record AreChanges (was : Committed) (puts : List Change) (groups : List (List Change)) : Type 0 where
  pub checkpoint : was.checkpoint ≡ group_text was.generation puts
  pub journal : was.groups ≡ group_texts 1 groups
  pub are_puts : ArePuts puts
  pub are_groups : AllByRecursion IsGroup (puts ∷ groups)

-- What is committed has these rows: those of the checkpoint, changed by the groups, each change of which fits.
pub record HasAllRows (was : Committed) (rows : AllRows) : Type 0 where
  pub puts : List Change
  pub groups : List (List Change)
  pub are : AreChanges was puts groups
  pub fit : AllFitIn no_rows (puts ++ joined groups)
  pub rows_are : (table : TableId) → rows table ≡ changed_by no_rows (puts ++ joined groups) table

-- an image of the journal's disk has these rows
pub record Hold (image : Files) (rows : AllRows) : Type 0 where
  pub was : Committed
  pub committed : HasCommitted was image
  pub has : HasAllRows was rows

-- where the spot of a row ends in the archive: only revisions have one
abbrev pub spot_end : Record → ℕ
spot_end (Rev row) = row.at + row.length
spot_end _ = 0

-- the greatest of these ends, 0 where there is none
abbrev pub spots_end : List Record → ℕ
spots_end [] = 0
spots_end (row ∷ rows) = max (spot_end row) (spots_end rows)

-- the files have these rows, and no spot ends behind the archive
pub record HoldWithin (journal archive : Files) (rows : AllRows) : Type 0 where
  pub hold : Hold journal rows
  pub within : spots_end (rows tables.Rev) ≤ length (archive 0)
