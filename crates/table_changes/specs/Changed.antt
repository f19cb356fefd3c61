-- The rows of all tables, and what changes make of them, one after another. Which tables there are is that of the Helix Core database schema
-- reference; which changes fit is the choice of the crate of versions.
use Rattle.std.specs.Prelude.{◌==◌, List, [], ◌∷◌, if◌then◌else◌}
use Rattle.table_store.specs.db_records.Record.{table_of}
use Rattle.table_store.specs.db_records.Table.{table_number}
use Rattle.table_store.specs.db_records.declared.change.Change.{Change}
use Rattle.table_store.specs.db_records.declared.record.Record.{Record}
use Rattle.table_store.specs.db_records.declared.table.TableId.{TableId}
use Rattle.table_store.specs.Rows.{Fits, changed_once}
use Rattle.table_store.specs.Tables.{version_of}
use Rattle.table_store.specs.declared.tables.Tables.{Tables}

-- the rows of each table
abbrev pub AllRows : Type 0
AllRows = TableId → List Record

abbrev pub rows_of : Tables → AllRows
rows_of tables table = (version_of tables table).rows

abbrev pub no_rows : AllRows
no_rows table = []

-- the rows after a change of the table of its row
abbrev pub changed_in : AllRows → Change → AllRows
changed_in rows change table = if table_number table == table_number (table_of change.row) then changed_once (rows table) change else rows table

-- a change fits the rows of its table
abbrev pub FitsIn : AllRows → Change → Type 0
FitsIn rows change = Fits (record { table = table_of change.row; rows = rows (table_of change.row) }) change

-- the rows after all changes, one after another, and that each fits the rows that it finds
abbrev pub changed_by : AllRows → List Change → AllRows
changed_by rows [] = rows
changed_by rows (change ∷ changes) = changed_by (changed_in rows change) changes

abbrev pub AllFitIn : AllRows → List Change → Type 0
AllFitIn rows [] = Unit {0}
AllFitIn rows (change ∷ changes) = FitsIn rows change × AllFitIn (changed_in rows change) changes
