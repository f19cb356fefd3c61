use Rattle.std.proofs.Common.{ap, ◌∙◌, ◌≡◌, Some}
use Rattle.depot_rows.specs.db_records.declared.key.Key.TheVariants as keys
use Rattle.depot_rows.specs.db_records.declared.record.Record.{Record}
use Rattle.depot_rows.specs.table_changes.Changed.{rows_of}
use Rattle.depot_rows.specs.depot_model.Records.{pending_record}
use Rattle.depot_rows.specs.depot_model.Rules.{Rows}
use Rattle.depot_rows.specs.Deed.{pending_of}
use Rattle.depot_rows.specs.Effects.{raised, put_at}
use Rattle.depot_rows.specs.Standing.{row_in}
use Rattle.row_changes.specs.Overlay.{seen}
use Rattle.row_changes.proofs.overlay.Overlay.pend.Goals as goal

pub returns : goal.returns
returns c =
    let rows : Rows = row_in (rows_of c.args.tables.now) in
    let before : Rows = seen c.args.self.now.touched rows in
    let put : seen c.put.new.self.touched rows ≡ put_at (keys.Change c.args.pending.now.change) (Some (pending_record (pending_of c.args.pending.now))) before =
    λ i q. (c.in_ok-put.ensures rows q ∙ ap (λ (r : Record). put_at (keys.Change c.args.pending.now.change) (Some r) before q) c.in_ok-row.ensures) i in
    λ q. c.in_ok-raise.ensures q ∙ ap (λ (f : Rows). raised c.args.pending.now.change f q) put
