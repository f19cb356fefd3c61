-- When rows stand for a depot (Helix Core database schema reference, "Tables"). That a depot is the list of its deeds, and that its rows tell
-- nothing of where a content lies in the archive, is this project's own choice.
use Rattle.std.specs.Prelude.{◌≡◌, List, Option, option_map}
use Rattle.depot_model.specs.db_records.Key.{key_table}
use Rattle.depot_model.specs.db_records.declared.key.Key.{Key}
use Rattle.depot_model.specs.db_records.declared.record.Record.{Record}
use Rattle.depot_model.specs.db_records.declared.table.TableId.{TableId}
use Rattle.table_changes.specs.table_store.Rows.{row_at}
use Rattle.table_changes.specs.Changed.{AllRows}
use Rattle.depot_model.specs.Deeds.{Deed}
use Rattle.depot_model.specs.Records.{record_of, unplaced}
use Rattle.depot_model.specs.Rules.{IsSound, Rows}

-- the row of a table at a key
abbrev pub row_in : AllRows → Rows
row_in rows key = row_at key (rows (key_table key))

-- the row at a key, without the place of its content
abbrev pub unplaced_at : List Record → Key → Option Record
unplaced_at rows key = option_map unplaced (row_at key rows)

-- the rows of one table are those of the depot
abbrev pub HasRows : AllRows → List Deed → TableId → Type 0
HasRows rows d table = (key : Key) → key_table key ≡ table → unplaced_at (rows table) key ≡ record_of d key

-- the rows of all tables are those of a sound depot
pub record Stand (rows : AllRows) (d : List Deed) : Type 0 where
  pub sound : IsSound d
  pub each : (table : TableId) → HasRows rows d table
