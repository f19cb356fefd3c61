-- The row of a change, by its record and by the opened files that the asker may list (Command-Line Reference, "p4 change", option -o). That a record
-- whose client is no name has no opened files is this project's own choice; no sound depot has one.
use Rattle.std.specs.Prelude.{ℕ, ◌&&◌, codes, decimal, if◌then◌else◌, List, [], ◌∷◌, map, Option, Some, None}
use Rattle.std.specs.List.{enumerate_from}
use Rattle.depot_rows.specs.depot_path.Bytes.{same}
use Rattle.depot_rows.specs.depot_path.Name.{is_name}
use Rattle.depot_rows.specs.depot_path.Path.{printed}
use Rattle.depot_rows.specs.protect_table.Rights.{may}
use Rattle.depot_rows.specs.db_records.declared.rows.ChangeRecord.{ChangeRecord}
use Rattle.depot_rows.specs.depot_model.declared.reply.Row.{Row}
use Rattle.depot_rows.specs.depot_model.declared.request.Caller.{Caller}
use Rattle.depot_rows.specs.depot_model.Deeds.{Deed, Opening}
use Rattle.depot_rows.specs.depot_model.FormRows.{numbered}
use Rattle.depot_rows.specs.depot_model.Rows.{row, text_field}
use Rattle.depot_rows.specs.depot_model.Steps.Changing.{change_row, listable}
use Rattle.named_files.specs.declared.asker.Asker.{Asker}
use Rattle.opening_reads.specs.InChange.{opened_in}

-- a path as it is printed, where the asker may list the file
abbrev pub listed_text : Asker → List ℕ → List (List ℕ)
listed_text asker path = if may asker.protects asker.who path 1 then printed path ∷ [] else []

abbrev pub number_word : Option ℕ → List ℕ
number_word None = codes "new"
number_word (Some n) = decimal n

-- the row of a change with its files, as they are printed
abbrev pub shown_row : Option ℕ → List ℕ → List ℕ → List ℕ → List ℕ → List (List ℕ) → Row
shown_row n client user status text files = row (
    text_field (codes "Change") (number_word n) ∷ text_field (codes "Client") client ∷ text_field (codes "User") user
    ∷ text_field (codes "Status") status ∷ text_field (codes "Description") text ∷ map (numbered (codes "Files")) (enumerate_from 0 files))

-- the opened files of a pending change
abbrev pub openings_told : List Deed → ChangeRecord → List Opening
openings_told d r = if same r.status (codes "pending") && is_name r.client then opened_in d r.client r.change else []

abbrev pub record_row : List Deed → Caller → ℕ → ChangeRecord → Row
record_row d caller n r = change_row (decimal n) r.client r.user r.status r.text (listable d caller (openings_told d r))
