-- The row of an opening, as its row in the table has it (Command-Line Reference, "p4 opened"; Helix Core database schema reference, "db.working").
use Rattle.std.specs.Prelude.{ℕ, Bool, ◌||◌, List, [], ◌∷◌, codes}
use Rattle.depot_rows.specs.db_records.declared.rows.WorkingRecord.{WorkingRecord}
use Rattle.depot_rows.specs.depot_path.Bytes.{same}
use Rattle.depot_rows.specs.depot_model.declared.reply.Row.{Row}
use Rattle.depot_rows.specs.depot_model.Rows.{row, text_field, number_field, change_word}

abbrev pub row_of_working : WorkingRecord → Row
row_of_working r = row (
    text_field (codes "depotFile") r.path ∷ number_field (codes "rev") r.base ∷ text_field (codes "action") r.action
    ∷ text_field (codes "change") (change_word r.change) ∷ text_field (codes "type") r.file_type ∷ text_field (codes "client") r.client
    ∷ number_field (codes "lock") r.lock ∷ [])

-- an opening is shown: those of all clients are, or it is the client's
abbrev pub is_shown : Bool → List ℕ → WorkingRecord → Bool
is_shown all client r = all || same client r.client
