-- The rows of tables (Helix Core database schema reference, "Tables"). That they stand in the order of their keys is this project's own choice.
use Rattle.depot_rows.specs.db_records.declared.record.Record.{Record}
use Rattle.depot_rows.specs.db_records.declared.table.TableId.{TableId}
use Rattle.std.specs.Prelude.{List}
use Rattle.depot_rows.specs.table_changes.Changed.{AllRows}
use Rattle.depot_rows.specs.table_store.Rows.{AllOfTable, IsRising}

-- each of these rows is of the table, and their keys rise
pub record IsTable (table : TableId) (rows : List Record) : Type 0 where
  pub of_table : AllOfTable table rows
  pub rising : IsRising rows

-- so are the rows of each table
abbrev pub AreTables : AllRows → Type 0
AreTables rows = (table : TableId) → IsTable table (rows table)
