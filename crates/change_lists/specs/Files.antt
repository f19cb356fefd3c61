-- The revisions that a submitted change made, by their rows (Command-Line Reference, "p4 describe", "p4 changes"; Helix Core database schema reference,
-- "db.rev"). That a row whose path isn't one is of no file is this project's own choice; no sound depot has one.
use Rattle.std.specs.Prelude.{ℕ, Bool, false, if◌then◌else◌, is_some, List, filter, Option, Some, None, Ok, Err}
use Rattle.depot_rows.specs.depot_path.Path.{path_of}
use Rattle.depot_rows.specs.protect_table.Rights.{may}
use Rattle.depot_rows.specs.db_records.declared.record.Record.{Record}
use Rattle.depot_rows.specs.db_records.declared.record.Record.TheVariants.{Rev}
use Rattle.depot_rows.specs.db_records.declared.rows.RevRecord.{RevRecord}
use Rattle.depot_rows.specs.table_store.Marks.{is_of_change}
use Rattle.named_files.specs.declared.asker.Asker.{Asker}

-- the asker may list the file that a text spells
abbrev pub may_in_text : Asker → List ℕ → Bool
may_in_text asker text = elim (path_of text) [ Err fault ↦ false | Ok path ↦ may asker.protects asker.who path 1 ]

-- the revision of a row, where the asker may list its file
abbrev pub listable_in : Asker → Record → Option RevRecord
listable_in asker (Rev r) = if may_in_text asker r.path then Some r else None
listable_in asker _ = None

abbrev pub is_listable_row : Asker → Record → Bool
is_listable_row asker row = is_some (listable_in asker row)

-- the revisions that a change made
abbrev pub rows_made : ℕ → List Record → List Record
rows_made n rows = filter (is_of_change n) rows
