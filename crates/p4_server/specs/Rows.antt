-- What the rows of a depot print: each row as a journal record that puts it (System Administrator Guide, "Journal files"), tables and keys rising.
use Rattle.std.specs.Prelude.{◌≡◌, ℕ, List, Option, Result, Ok, Err}
use Rattle.std.specs.List.{flat_map}
use Rattle.outside_api.specs.Count.{HasRisen}
use Rattle.outside_api.specs.Told.{extended}
use Rattle.depot_rows.specs.db_records.declared.change.Op.TheVariants.{Put}
use Rattle.depot_rows.specs.db_records.declared.record.Record.{Record}
use Rattle.depot_rows.specs.db_records.declared.table.TableId.{TableId}
use Rattle.record_text.specs.Grammar.{spelling}
use Rattle.wire_text.specs.Giving.{GotFront}
use Rattle.p4_server.specs.declared.rows.RowsFault.{RowsFault}
use Rattle.p4_server.specs.declared.rows.RowsFault.TheVariants.{Sink, Memory}

abbrev pub row_text : Record → List ℕ
row_text row = spelling Put row

abbrev pub rows_text : List Record → List ℕ
rows_text rows = flat_map row_text rows

-- the text of the rows of these tables
abbrev pub tables_text : (TableId → List Record) → List TableId → List ℕ
tables_text rows tables = flat_map (λ table. rows_text (rows table)) tables

-- `out` got the text, or, where its count rose, a proper front of it; of want of memory nothing is said
abbrev pub Prints : Option (List ℕ) → Option (List ℕ) → ℕ → ℕ → List ℕ → Result (Unit {0}) RowsFault → Type 0
Prints before now faults_before faults_now text (Ok done) = now ≡ extended before text
Prints before now faults_before faults_now text (Err Sink) = HasRisen faults_before faults_now × GotFront before now text
Prints before now faults_before faults_now text (Err Memory) = Unit {0}
