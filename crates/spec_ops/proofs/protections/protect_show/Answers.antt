use Rattle.std.proofs.Common.{◌++◌, List, refl, ap, ◌∙◌, map}
use Rattle.std.specs.List.{enumerate_from}
use Rattle.std.specs.Prelude.{codes}
use Rattle.depot_rows.specs.db_records.declared.table.TableId.TheVariants as table_ids
use Rattle.depot_rows.specs.table_changes.Changed.{rows_of}
use Rattle.depot_rows.specs.depot_model.Deeds.{Deed}
use Rattle.depot_rows.specs.depot_model.FormRows.{numbered}
use Rattle.depot_rows.specs.depot_model.Latest.{guard_lines}
use Rattle.depot_rows.specs.depot_model.Rows.{row}
use Rattle.depot_rows.specs.depot_model.Rules.{IsSound}
use Rattle.depot_rows.specs.depot_model.Steps.Protections.{kept_line, protect_show}
use Rattle.depot_rows.specs.Standing.{HasRows}
use Rattle.reply_rows.specs.declared.step.Step.{Step}
use Rattle.reply_rows.specs.Made.{IsMade}
use Rattle.reply_rows.proofs.Joined.{made_row}
use Rattle.command_parts.proofs.Refused.{if_ok}
use Rattle.spec_ops.proofs.protections.protect_show.Goals as goal

pub returns : goal.returns
returns c =
    let rows = rows_of c.args.tables.now in
    let Q : Step → Type 0 = λ step. (d : List Deed) → IsSound d → HasRows rows d table_ids.Protect → IsMade rows d d (protect_show d) step in
    if_ok {Q = Q} _ _ c.tells.ensures (λ step told d sound has.
    made_row rows d d _ (row (map (numbered (codes "Protections")) (enumerate_from 0 (map kept_line (guard_lines d))))) step
    (c.row_of.ensures ∙ ap row (c.in_ok-push_numbered.ensures
    ∙ (λ i. c.new-fields.ensures i ++ map (numbered (codes "Protections")) (enumerate_from 0 ((c.as_slice.ensures ∙ c.in_ok-lines.ensures d sound has) i)))))
    refl told)
