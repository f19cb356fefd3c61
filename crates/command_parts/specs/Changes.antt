-- The refusal of a change that is named, by its row (Helix Core database schema reference, "db.change").
use Rattle.std.specs.Prelude.{ℕ, not, ◌&&◌, codes, if◌then◌else◌, Option, Some}
use Rattle.depot_rows.specs.depot_path.Bytes.{same}
use Rattle.depot_rows.specs.db_records.declared.record.Record.{Record}
use Rattle.depot_rows.specs.db_records.declared.record.Record.TheVariants.{Change}
use Rattle.depot_rows.specs.depot_model.declared.request.Caller.{Caller}
use Rattle.depot_rows.specs.depot_model.declared.refusal.Refusal.{Refusal}
use Rattle.depot_rows.specs.depot_model.declared.refusal.Refusal.TheVariants.{NoSuchChange, NotYours}
use Rattle.depot_rows.specs.depot_model.Step.{refuse_if}

abbrev pub change_told : Caller → ℕ → Option Record → Option Refusal
change_told caller n (Some (Change r)) =
    if same r.status (codes "pending") then refuse_if (not (same r.user caller.user && same r.client caller.client)) (NotYours n) else Some (NoSuchChange n)
change_told caller n _ = Some (NoSuchChange n)
