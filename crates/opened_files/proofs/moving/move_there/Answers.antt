use Rattle.std.proofs.Common.{◌≡◌, ℕ, List, refl, sym, ap, ◌∙◌}
use Rattle.depot_rows.specs.db_records.declared.table.TableId.TheVariants as table_ids
use Rattle.depot_rows.specs.table_changes.Changed.{rows_of}
use Rattle.depot_rows.specs.depot_model.Deeds.{Deed}
use Rattle.depot_rows.specs.depot_model.Revisions.{head}
use Rattle.depot_rows.specs.depot_model.Rules.{IsSound}
use Rattle.depot_rows.specs.depot_model.Steps.Moving.{move_deeds, move_row}
use Rattle.depot_rows.specs.Deed.{opening_of}
use Rattle.depot_rows.specs.Standing.{HasRows}
use Rattle.reply_rows.specs.Made.{IsMade}
use Rattle.reply_rows.specs.declared.step.Step.{Step}
use Rattle.reply_rows.proofs.Joined.{made_done}
use Rattle.opening_reads.specs.OwnOpenings.{IsOwn}
use Rattle.command_parts.proofs.Refused.{if_ok}
use Rattle.opened_files.specs.Moves.{move_step, moved_row}
use Rattle.opened_files.proofs.Later.{head_later}
use Rattle.opened_files.proofs.moving.move_there.Goals as goal

pub returns : goal.returns
returns c =
    let rows = rows_of c.args.tables.now in
    let Q : Step → Type 0 = λ step. (d e : List Deed) → IsSound d → HasRows rows d table_ids.Working → HasRows rows d table_ids.Rev
    → IsOwn c.args.own.now c.args.opening.now.client d e → IsMade rows d e (move_step e c.args.change (opening_of c.args.opening.now) c.args.target.now) step in
    if_ok {Q = Q} _ _ c.step_of.ensures (λ step made d e sound working revisions own.
    let o = opening_of c.args.opening.now in
    let t = c.args.target.now in
    let head_is : c.in_ok-base.base ≡ head e t = c.in_ok-base.ensures d sound revisions ∙ sym (head_later c.args.opening.now.client d e own.came t) in
    made_done rows d e c.in_ok-deeds.deeds (move_deeds e c.args.change o t) c.in_ok-row.row (move_row e o t) step
    (c.in_ok-deeds.ensures d e sound working own head_is)
    (c.in_ok-row.ensures ∙ ap (λ (n : ℕ). moved_row o n t) head_is) refl made)
