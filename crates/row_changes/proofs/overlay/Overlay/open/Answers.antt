use Rattle.std.proofs.Common.{ap, ◌∙◌, refl, ◌≡◌}
use Rattle.depot_rows.specs.db_records.declared.key.Key.{Key}
use Rattle.depot_rows.specs.db_records.declared.key.Key.TheVariants as keys
use Rattle.depot_rows.specs.table_changes.Changed.{rows_of}
use Rattle.depot_rows.specs.depot_model.Rules.{Rows}
use Rattle.depot_rows.specs.declared.deed.Deed.TheVariants.{Open}
use Rattle.depot_rows.specs.Effects.{effect, working_row}
use Rattle.depot_rows.specs.Standing.{row_in}
use Rattle.row_changes.specs.Overlay.{seen}
use Rattle.row_changes.proofs.Puts.{becomes-put}
use Rattle.std.proofs.Common.{Some}
use Rattle.depot_rows.specs.depot_path.Path.{printed}
use Rattle.depot_rows.specs.depot_model.Rules.{lock_of}
use Rattle.row_changes.proofs.overlay.Overlay.open.Goals as goal

pub returns : goal.returns
returns c =
    let rows : Rows = row_in (rows_of c.args.tables.now) in
    let before : Rows = seen c.args.self.now.touched rows in
    let at : Key = keys.Working (printed c.args.opening.now.path) c.args.opening.now.client in
    let key : keys.Working c.in_ok-print.field-0 c.in_ok-from_bytes.field-0 ≡ at = λ i. keys.Working (c.in_ok-print.ensures.printed i) ((c.in_ok-from_bytes.ensures ∙ c.as_bytes.ensures.value) i) in
    becomes-put c.put.result rows (effect (Open c.args.opening.now)) (keys.Working c.in_ok-print.field-0 c.in_ok-from_bytes.field-0) at
    (Some c.in_ok-row.row) (Some (working_row (lock_of (before at)) c.args.opening.now)) c.args.self.now.touched c.put.new.self.touched c.put.ensures key
    (λ i. Some ((c.in_ok-row.ensures ∙ ap (λ n. working_row n c.args.opening.now) (c.lock_of-lock.ensures ∙ ap lock_of (c.get.ensures.row ∙ ap before key))) i)) (λ q. refl)
