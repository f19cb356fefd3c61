-- Openings, as rows have them. This project's own choice.
use Rattle.std.specs.Prelude.{ℕ, List, codes, if◌then◌else◌, Option, Some, None, Ok, Err, unwrap_or, option_map}
use Rattle.depot_rows.specs.depot_path.Bytes.{same}
use Rattle.depot_rows.specs.depot_path.Path.{path_of}
use Rattle.depot_rows.specs.db_records.declared.rows.WorkingRecord.{WorkingRecord}
use Rattle.depot_rows.specs.declared.deed.Action.{Action}
use Rattle.depot_rows.specs.declared.deed.Action.TheVariants as actions
use Rattle.depot_rows.specs.declared.deed.Opening.{Opening}
use Rattle.depot_rows.specs.declared.deed.Source.{Source}

-- the path that a text spells
abbrev pub path_in_text : List ℕ → Option (List ℕ)
path_in_text text = elim (path_of text) [ Err fault ↦ None | Ok path ↦ Some path ]

abbrev pub word_action : List ℕ → Action
word_action word =
    if same word (codes "add") then actions.Add
    else if same word (codes "edit") then actions.Edit
    else if same word (codes "delete") then actions.Delete
    else if same word (codes "branch") then actions.Branch
    else if same word (codes "integrate") then actions.Integrate
    else if same word (codes "move/add") then actions.MoveAdd
    else actions.MoveDelete

abbrev pub source_at : ℕ → List ℕ → Source
source_at rev path = record { path = path; rev = rev }

abbrev pub source_in_row : List ℕ → ℕ → Option Source
source_in_row text rev = option_map (source_at rev) (path_in_text text)

-- the opening of a row, in another change and with another type where they are given
abbrev pub opening_in_row : List ℕ → List ℕ → WorkingRecord → Option ℕ → Option (List ℕ) → Opening
opening_in_row client path r change type = record {
  client = client;
  path = path;
  base = r.base;
  action = word_action r.action;
  file_type = unwrap_or type r.file_type;
  change = unwrap_or change r.change;
  source = source_in_row r.source r.source_rev;
  moved = path_in_text r.moved;
}
