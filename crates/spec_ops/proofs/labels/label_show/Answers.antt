use Rattle.std.proofs.Common.{List, ap, ◌∙◌}
use Rattle.std.specs.Prelude.{codes}
use Rattle.depot_rows.specs.db_records.declared.table.TableId.TheVariants as table_ids
use Rattle.depot_rows.specs.table_changes.Changed.{rows_of}
use Rattle.depot_rows.specs.depot_model.Deeds.{Deed, LabelForm}
use Rattle.depot_rows.specs.depot_model.Latest.{spec}
use Rattle.depot_rows.specs.depot_model.Rules.{IsSound}
use Rattle.depot_rows.specs.depot_model.Steps.Labels.{label_row, label_show}
use Rattle.depot_rows.specs.Standing.{HasRows}
use Rattle.reply_rows.specs.declared.step.Step.{Step}
use Rattle.reply_rows.specs.Made.{IsMade}
use Rattle.reply_rows.proofs.Joined.{made_row}
use Rattle.command_parts.proofs.Refused.{if_ok}
use Rattle.spec_ops.specs.Saving.{shown}
use Rattle.spec_ops.proofs.Made.{label_bare, label_shown}
use Rattle.spec_ops.proofs.labels.label_show.Goals as goal

pub returns : goal.returns
returns c =
    let rows = rows_of c.args.tables.now in
    let name = c.args.name.now in
    let Q : Step → Type 0 = λ step. (d : List Deed) → IsSound d → HasRows rows d table_ids.Domain → IsMade rows d d (label_show d name) step in
    if_ok {Q = Q} _ _ c.tells.ensures (λ step told d sound has.
    let form = spec d LabelForm name in
    made_row rows d d _ (label_row name form) step
    (c.in_ok-row.ensures d sound has ∙ ap (λ n. shown (codes "Label") n (spec d LabelForm n)) c.as_bytes.ensures.value ∙ label_shown name form)
    (label_bare name form) told)
