use Rattle.std.proofs.Common.{List, ap, ◌∙◌}
use Rattle.std.specs.Prelude.{codes}
use Rattle.depot_rows.specs.db_records.declared.table.TableId.TheVariants as table_ids
use Rattle.depot_rows.specs.table_changes.Changed.{rows_of}
use Rattle.depot_rows.specs.depot_model.Deeds.{Deed, ClientForm}
use Rattle.depot_rows.specs.depot_model.Latest.{spec}
use Rattle.depot_rows.specs.depot_model.Rules.{IsSound}
use Rattle.depot_rows.specs.depot_model.Steps.Clients.{client_row, client_show}
use Rattle.depot_rows.specs.Standing.{HasRows}
use Rattle.reply_rows.specs.declared.step.Step.{Step}
use Rattle.reply_rows.specs.Made.{IsMade}
use Rattle.reply_rows.proofs.Joined.{made_row}
use Rattle.command_parts.proofs.Refused.{if_ok}
use Rattle.spec_ops.specs.Saving.{shown}
use Rattle.spec_ops.proofs.Made.{client_bare, client_shown}
use Rattle.spec_ops.proofs.clients.client_show.Goals as goal

pub returns : goal.returns
returns c =
    let rows = rows_of c.args.tables.now in
    let name = c.args.name.now in
    let Q : Step → Type 0 = λ step. (d : List Deed) → IsSound d → HasRows rows d table_ids.Domain → IsMade rows d d (client_show d name) step in
    if_ok {Q = Q} _ _ c.tells.ensures (λ step told d sound has.
    let form = spec d ClientForm name in
    made_row rows d d _ (client_row name form) step
    (c.in_ok-row.ensures d sound has ∙ ap (λ n. shown (codes "Client") n (spec d ClientForm n)) c.as_bytes.ensures.value ∙ client_shown name form)
    (client_bare name form) told)
