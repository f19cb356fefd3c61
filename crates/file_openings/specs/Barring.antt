-- Which client keeps a client from opening a file, as the rows of its openings have it (Command-Line Reference, "File types" on `+l`). That a
-- client whose name is none is passed over is this project's own choice; no sound depot has one.
use Rattle.std.specs.Prelude.{ℕ, Bool, not, ◌&&◌, ◌||◌, List, find, Option, Some, None, Ok, Err, option_and_then}
use Rattle.depot_rows.specs.depot_path.Bytes.{same}
use Rattle.depot_rows.specs.depot_path.Name.{name_of}
use Rattle.depot_rows.specs.db_records.declared.record.Record.{Record}
use Rattle.depot_rows.specs.db_records.declared.rows.WorkingRecord.{WorkingRecord}
use Rattle.depot_rows.specs.depot_model.Steps.Opening.{is_exclusive}
use Rattle.file_openings.specs.Openings.{workings}

-- another client has the file opened, where the type of its opening or the new one is exclusive
abbrev pub bars_row : List ℕ → Bool → WorkingRecord → Bool
bars_row client exclusive r = not (same r.client client) && (exclusive || is_exclusive r.file_type)

-- the name that a text is
abbrev pub name_in_text : List ℕ → Option (List ℕ)
name_in_text text = elim (name_of text) [ Err fault ↦ None | Ok name ↦ Some name ]

abbrev pub client_in : WorkingRecord → Option (List ℕ)
client_in r = name_in_text r.client

-- the client of the first row that does so
abbrev pub barring_in : List ℕ → Bool → List Record → Option (List ℕ)
barring_in client exclusive rows = option_and_then client_in (find (bars_row client exclusive) (workings rows))
