-- The changes between the rows of tables and those of a depot (Helix Core database schema reference, "Tables"). That they are exactly what differs,
-- and that a place in the archive is no difference, is this project's own choice.
use Rattle.std.specs.Prelude.{◌≡◌, ◌≢◌, List, Option, Some, None, find, map}
use Rattle.std.specs.List.Sorted.{IsStrictlySortedBy}
use Rattle.depot_rows.specs.db_records.Key.{key_cmp, key_table}
use Rattle.depot_rows.specs.db_records.Record.{key_of}
use Rattle.depot_rows.specs.db_records.declared.change.Change.{Change}
use Rattle.depot_rows.specs.db_records.declared.change.Op.TheVariants.{Put, Replace, Remove}
use Rattle.depot_rows.specs.db_records.declared.key.Key.{Key}
use Rattle.depot_rows.specs.db_records.declared.record.Record.{Record}
use Rattle.depot_rows.specs.db_records.declared.table.TableId.{TableId}
use Rattle.depot_rows.specs.table_changes.Changed.{AllRows, AllFitIn, changed_by}
use Rattle.depot_rows.specs.depot_model.Deeds.{Deed}
use Rattle.depot_rows.specs.depot_model.Records.{record_of, unplaced, is_at}
use Rattle.depot_rows.specs.Standing.{HasRows, row_in}

abbrev pub changed_key : Change → Key
changed_key change = key_of change.row

-- the change at a key
abbrev pub change_at : List Change → Key → Option Change
change_at changes key = find (λ change. is_at key (changed_key change)) changes

-- the change from a row of the tables to the row that a depot has at its key: none exactly where they agree apart from the place; a new row is
-- put, one that differs is replaced, and one that is gone is removed as it stands
abbrev pub LeadsTo : Option Record → Option Record → Option Change → Type 0
LeadsTo None None change = change ≡ None
LeadsTo None (Some new) None = ⊥
LeadsTo None (Some new) (Some change) = (change.op ≡ Put) × (unplaced change.row ≡ new)
LeadsTo (Some old) None change = change ≡ Some (record { op = Remove; row = old })
LeadsTo (Some old) (Some new) None = unplaced old ≡ new
LeadsTo (Some old) (Some new) (Some change) = (unplaced old ≢ new) × (change.op ≡ Replace) × (unplaced change.row ≡ new)

-- in the tables that have the rows of one depot the changes are exactly what differs between them and the rows of another depot
pub record AreDifferences (all : AllRows) (before after : List Deed) (changes : List Change) : Type 0 where
  pub each : (key : Key) → HasRows all before (key_table key) → LeadsTo (row_in all key) (record_of after key) (change_at changes key)
  -- the keys rise, by table and then within each table
  pub rising : IsStrictlySortedBy key_cmp (map changed_key changes)
  -- each change fits after those before it, and after all of them those tables have the rows of the other depot
  pub fit : AllFitIn all changes
  pub left : (table : TableId) → HasRows all before table → HasRows (changed_by all changes) after table
