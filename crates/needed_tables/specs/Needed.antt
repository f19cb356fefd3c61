-- Tables that agree on all that a request needs. This project's own choice.
use Rattle.std.specs.Prelude.{◌≡◌, IsTrue, List}
use Rattle.std.specs.List.{AllByRecursion}
use Rattle.depot_rows.specs.db_records.Record.{table_of}
use Rattle.depot_rows.specs.db_records.declared.change.Change.{Change}
use Rattle.depot_rows.specs.db_records.declared.table.TableId.{TableId}
use Rattle.depot_rows.specs.table_changes.Changed.{AllRows}
use Rattle.depot_rows.specs.depot_model.Tables.{needs_table}
use Rattle.depot_rows.specs.depot_model.declared.request.Request.{Request}

-- the tables that a request needs have the same rows in both; words that are no command need none
abbrev pub AgreeOnNeeded : AllRows → AllRows → Request → Type 0
AgreeOnNeeded rows all request = (table : TableId) → IsTrue (needs_table request.command table) → rows table ≡ all table

-- so have the tables of changes
abbrev pub AgreeOnChanged : AllRows → AllRows → List Change → Type 0
AgreeOnChanged rows all changes = AllByRecursion (λ (change : Change). rows (table_of change.row) ≡ all (table_of change.row)) changes

-- each change is of a table that the request needs
abbrev pub AreNeeded : Request → List Change → Type 0
AreNeeded request changes = AllByRecursion (λ (change : Change). IsTrue (needs_table request.command (table_of change.row))) changes
