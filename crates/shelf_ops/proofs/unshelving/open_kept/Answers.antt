use Rattle.std.proofs.Common.{List, Some, sym, ap, ◌∙◌}
use Rattle.depot_rows.specs.depot_path.Path.{is_path}
use Rattle.depot_rows.specs.table_changes.Changed.{AllRows}
use Rattle.depot_rows.specs.depot_model.declared.reply.Row.{Row}
use Rattle.depot_rows.specs.depot_model.Deeds.{Deed}
use Rattle.depot_rows.specs.Deed.{opening_of}
use Rattle.reply_rows.specs.Made.{IsMade}
use Rattle.reply_rows.specs.declared.step.Step.{Step}
use Rattle.command_parts.proofs.Refused.{if_ok}
use Rattle.shelf_ops.specs.Unshelved.{opens_kept, opens_waiting}
use Rattle.shelf_ops.proofs.Unshelved.{opened_so}
use Rattle.shelf_ops.proofs.unshelving.open_kept.Goals as goal

pub returns : goal.returns
returns c =
    let opening = c.args.opening in
    let place = Some c.args.place.now in
    let Q : Step → Type 0 = λ step. (all : AllRows) (d e : List Deed) → IsMade all d e (opens_kept (opening_of opening) place c.args.block) step in
    if_ok {Q = Q} _ _ c.opens.ensures (λ step made all d e.
    let bytes = c.as_bytes-bytes.ensures in
    opened_so all d e opening place c.args.block step (ap is_path (sym bytes.value) ∙ bytes.path)
    (made ∙ ap (λ (row : Row). opens_waiting opening row c.args.block) c.in_ok-row.ensures))
