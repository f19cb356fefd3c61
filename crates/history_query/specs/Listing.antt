-- The row of a revision, as the rows of the tables have it (Command-Line Reference, "p4 files").
use Rattle.std.specs.Prelude.{ℕ, Bool, not, ◌&&◌, List, [], ◌∷◌, codes, if◌then◌else◌, Option, Some, None}
use Rattle.depot_rows.specs.db_records.Record.{is_live}
use Rattle.depot_rows.specs.db_records.declared.record.Record.{Record}
use Rattle.depot_rows.specs.db_records.declared.record.Record.TheVariants.{Change, Rev}
use Rattle.depot_rows.specs.depot_model.declared.reply.Row.{Row}
use Rattle.depot_rows.specs.depot_model.Rows.{row, path_field, number_field, text_field}

abbrev pub file_row_of : List ℕ → Record → Record → Row
file_row_of path (Rev r) (Change c) = row (
    path_field (codes "depotFile") path ∷ number_field (codes "rev") r.rev ∷ number_field (codes "change") r.change
    ∷ text_field (codes "action") r.action ∷ text_field (codes "type") r.file_type ∷ number_field (codes "time") c.moment ∷ [])
file_row_of path _ _ = row []

-- with -e a revision that isn't live has no row
abbrev pub rows_told : Bool → List ℕ → Option (Record × Record) → List Row
rows_told live path None = []
rows_told live path (Some p) = if live && not (is_live p.0) then [] else file_row_of path p.0 p.1 ∷ []
