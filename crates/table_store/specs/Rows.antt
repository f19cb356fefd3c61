-- The rows of a table as a list in key order.
--
-- Which changes a table takes, and what each leaves, is this project's own choice: a Put adds a row, a
-- Replace puts a row in the place of the one with its key, and a Remove takes one away as it is given.
-- That no two rows of a table have one key is the database's (Helix Core database schema reference).
use Rattle.std.specs.Prelude.{◌≡◌, Bool, not, List, [], ◌∷◌, ◌++◌, Option, Some, None, IsSome}
use Rattle.std.specs.List.{filter, find}
use Rattle.std.specs.Ordering.{is_lt, is_eq, is_gt}
use Rattle.db_records.specs.declared.key.Key.{Key}
use Rattle.db_records.specs.declared.table.TableId.{TableId}
use Rattle.db_records.specs.declared.record.Record.{Record}
use Rattle.db_records.specs.declared.change.Change.{Change}
use Rattle.db_records.specs.declared.change.Op.{Op}
use Rattle.db_records.specs.declared.change.Op.TheVariants.{Put, Replace, Remove}
use Rattle.db_records.specs.Key.{key_cmp}
use Rattle.db_records.specs.Record.{key_of, table_of}
use Rattle.table_store.specs.Places.{at_key, by_key, AllStandBelow, AllStandAbove, StandsRising}
pub use Rattle.table_store.specs.Places.{left_by}

-- where a row stands by a key
abbrev pub is_below : Key → Record → Bool
is_below key row = is_lt (key_cmp (key_of row) key)

abbrev pub is_at : Key → Record → Bool
is_at key row = is_eq (key_cmp (key_of row) key)

abbrev pub is_above : Key → Record → Bool
is_above key row = is_gt (key_cmp (key_of row) key)

abbrev pub AllBelow : Key → List Record → Type 0
AllBelow key rows = AllStandBelow by_key (at_key key) rows

abbrev pub AllAbove : Key → List Record → Type 0
AllAbove key rows = AllStandAbove by_key (at_key key) rows

-- the keys rise
abbrev pub IsRising : List Record → Type 0
IsRising rows = StandsRising by_key rows

-- all rows are of the table
abbrev pub AllOfTable : TableId → List Record → Type 0
AllOfTable table [] = Unit {0}
AllOfTable table (row ∷ rows) = (table_of row ≡ table) × AllOfTable table rows

-- a table and its rows
pub record TableRows : Type 0 where
  pub table : TableId
  pub rows : List Record

-- the row that has the key
abbrev pub row_at : Key → List Record → Option Record
row_at key rows = find (is_at key) rows

-- the rows from the first key at or above the key
abbrev pub rows_from : Key → List Record → List Record
rows_from key rows = filter (λ row. not (is_below key row)) rows

-- the rows after a change: those below its key, what it leaves there, and those above
abbrev pub changed_once : List Record → Change → List Record
changed_once rows change = filter (is_below (key_of change.row)) rows ++ (left_by change.op change.row ++ filter (is_above (key_of change.row)) rows)

-- the rows after all changes, one after another
abbrev pub changed : List Record → List Change → List Record
changed rows [] = rows
changed rows (change ∷ changes) = changed (changed_once rows change) changes

-- a Put of an absent key, a Replace of a present key, or a Remove of a row that is there as given
abbrev pub FitsAt : Op → Record → Option Record → Type 0
FitsAt Put row there = there ≡ None
FitsAt Replace row there = IsSome there
FitsAt Remove row there = there ≡ Some row

pub record Fits (version : TableRows) (change : Change) : Type 0 where
  pub of_table : table_of change.row ≡ version.table
  pub at_key : FitsAt change.op change.row (row_at (key_of change.row) version.rows)

abbrev pub with_rows : TableRows → List Record → TableRows
with_rows version rows = record { table = version.table; rows = rows }

-- each change fits after those before it
abbrev pub AllFit : TableRows → List Change → Type 0
AllFit version [] = Unit {0}
AllFit version (change ∷ changes) = Fits version change × AllFit (with_rows version (changed_once version.rows change)) changes
