-- What is told of the files that are kept in a change, by their forms and by the record of the change (Command-Line Reference, "p4 describe",
-- option -S; Helix Core database schema reference, "db.change").
use Rattle.std.specs.Prelude.{ℕ, List, [], ◌∷◌, ◌++◌, codes, decimal, flat_map, if◌then◌else◌, Option, Some, None}
use Rattle.std.specs.List.{enumerate_from}
use Rattle.depot_rows.specs.depot_path.Bytes.{same}
use Rattle.depot_rows.specs.db_records.declared.rows.ChangeRecord.{ChangeRecord}
use Rattle.depot_rows.specs.spec_form.Form.{FormValue}
use Rattle.depot_rows.specs.depot_model.declared.refusal.Refusal.TheVariants.{NoShelf}
use Rattle.depot_rows.specs.depot_model.declared.reply.Field.{Field}
use Rattle.depot_rows.specs.depot_model.declared.reply.Row.{Row}
use Rattle.depot_rows.specs.depot_model.Deeds.{Deed}
use Rattle.depot_rows.specs.depot_model.Refusals.{refusal_row}
use Rattle.depot_rows.specs.depot_model.Rows.{action_word, number_field, path_field, row, text_field}
use Rattle.depot_rows.specs.depot_model.Shelves.{kept_action}
use Rattle.depot_rows.specs.depot_model.Steps.Shelving.{shelved_fields}
use Rattle.depot_rows.specs.depot_model.Values.{value_of}

-- the word of an action in the form of a kept file, `add` for any other word
abbrev pub kept_word : List ℕ → List ℕ
kept_word word =
    if same (codes "add") word then codes "add" else (if same (codes "edit") word then codes "edit" else (if same (codes "delete") word then codes "delete" else codes "add"))

-- the fields of a file, by its form where it has one
abbrev pub form_fields : ℕ → List ℕ → Option FormValue → List Field
form_fields k path None = []
form_fields k path (Some form) =
    path_field (codes "depotFile" ++ decimal k) path ∷ text_field (codes "action" ++ decimal k) (action_word (kept_action form))
    ∷ text_field (codes "rev" ++ decimal k) (value_of form (codes "Base")) ∷ []

-- those of a change, by its record
abbrev pub change_fields : ChangeRecord → List Field
change_fields r = number_field (codes "change") r.change ∷ text_field (codes "user") r.user ∷ text_field (codes "client") r.client ∷ []

-- what is told of a pending change with these files, by its record
abbrev pub pending_told : List Deed → ChangeRecord → List (List ℕ) → Row
pending_told d r paths = row (change_fields r ++ flat_map (shelved_fields d r.change) (enumerate_from 0 paths))

-- what is told of a change with these files, by its record where there is one
abbrev pub change_told : List Deed → ℕ → List (List ℕ) → Option ChangeRecord → Row
change_told d n paths None = refusal_row (NoShelf n)
change_told d n paths (Some r) = if same r.status (codes "pending") then pending_told d r paths else refusal_row (NoShelf n)
