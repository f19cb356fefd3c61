use Rattle.std.proofs.Common.{◌∷◌, ◌++◌, List, [], refl, ap, ◌∙◌, map}
use Rattle.std.specs.List.{enumerate_from}
use Rattle.std.specs.Prelude.{codes}
use Rattle.depot_rows.specs.db_records.declared.table.TableId.TheVariants as table_ids
use Rattle.depot_rows.specs.table_changes.Changed.{rows_of}
use Rattle.depot_rows.specs.depot_model.Deeds.{Deed}
use Rattle.depot_rows.specs.depot_model.FormRows.{numbered}
use Rattle.depot_rows.specs.depot_model.Latest.{users}
use Rattle.depot_rows.specs.depot_model.Rows.{row, text_field}
use Rattle.depot_rows.specs.depot_model.Steps.Groups.{by_name, group_show}
use Rattle.depot_rows.specs.Standing.{HasRows}
use Rattle.reply_rows.specs.declared.step.Step.{Step}
use Rattle.reply_rows.specs.Made.{IsMade}
use Rattle.reply_rows.proofs.Joined.{made_row}
use Rattle.command_parts.proofs.Refused.{if_ok}
use Rattle.spec_ops.proofs.groups.group_show.Goals as goal

pub returns : goal.returns
returns c =
    let rows = rows_of c.args.tables.now in
    let name = c.args.name.now in
    let Q : Step → Type 0 = λ step. (d : List Deed) → HasRows rows d table_ids.Group → IsMade rows d d (group_show d name) step in
    if_ok {Q = Q} _ _ c.tells.ensures (λ step told d has.
    let first = c.in_ok-push.ensures.ok ∙ (λ i. c.new-fields.ensures i ++ (c.in_ok-text_field.ensures ∙ ap (text_field (codes "Group")) c.as_bytes.ensures.value) i ∷ []) in
    made_row rows d d _ (row (text_field (codes "Group") name ∷ map (numbered (codes "Users")) (enumerate_from 0 (by_name (users d name))))) step
    (c.row_of.ensures ∙ ap row (c.in_ok-push_numbered.ensures
    ∙ (λ i. first i ++ map (numbered (codes "Users")) (enumerate_from 0 ((c.as_slice.ensures ∙ c.in_ok-users.ensures d has) i)))))
    refl told)
