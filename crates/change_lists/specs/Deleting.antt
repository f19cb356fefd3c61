-- By what the deletion of a change is refused, by its row and by whether it has opened files (Command-Line Reference, "p4 change", option -d).
use Rattle.std.specs.Prelude.{ℕ, Bool, not, ◌&&◌, ◌||◌, codes, if◌then◌else◌, [], ◌∷◌, Option, Some, None}
use Rattle.depot_rows.specs.depot_path.Bytes.{same}
use Rattle.depot_rows.specs.db_records.declared.record.Record.{Record}
use Rattle.depot_rows.specs.db_records.declared.record.Record.TheVariants.{Change}
use Rattle.depot_rows.specs.depot_model.declared.reply.Row.{Row}
use Rattle.depot_rows.specs.depot_model.declared.request.Caller.{Caller}
use Rattle.depot_rows.specs.depot_model.declared.refusal.Refusal.{Refusal}
use Rattle.depot_rows.specs.depot_model.declared.refusal.Refusal.TheVariants.{NoSuchChange, NotDeletable, NotYours}
use Rattle.depot_rows.specs.depot_model.Rows.{number_field, row, text_field}

abbrev pub delete_told : Caller → ℕ → Bool → Option Record → Option Refusal
delete_told caller n holds (Some (Change r)) =
    if not (same r.user caller.user && same r.client caller.client) then Some (NotYours n)
    else if not (same r.status (codes "pending")) || holds then Some (NotDeletable n) else None
delete_told caller n holds _ = Some (NoSuchChange n)

abbrev pub deleted_row : ℕ → Row
deleted_row n = row (number_field (codes "Change") n ∷ text_field (codes "action") (codes "deleted") ∷ [])
