use Rattle.std.proofs.Common.{ℕ, List, sym, ap, ◌∙◌}
use Rattle.std.specs.Prelude.{◌&&◌, not}
use Rattle.depot_rows.specs.db_records.declared.table.TableId.TheVariants as table_ids
use Rattle.depot_rows.specs.depot_path.Name.{is_name}
use Rattle.depot_rows.specs.spec_form.Form.{FormValue}
use Rattle.depot_rows.specs.table_changes.Changed.{AllRows, rows_of}
use Rattle.depot_rows.specs.depot_model.declared.refusal.Refusal.TheVariants.{LabelLocked}
use Rattle.depot_rows.specs.depot_model.Deeds.{Deed}
use Rattle.depot_rows.specs.depot_model.Refusals.{refusal_row}
use Rattle.depot_rows.specs.depot_model.Rules.{IsSound}
use Rattle.depot_rows.specs.depot_model.Steps.Labels.{is_locked, is_locked_form, saved}
use Rattle.depot_rows.specs.Standing.{HasRows}
use Rattle.reply_rows.specs.declared.step.Step.{Step}
use Rattle.reply_rows.specs.Made.{IsMade}
use Rattle.command_parts.proofs.Refused.{holding_told, if_ok, passed_if}
use Rattle.spec_ops.proofs.labels.save.Goals as goal

abbrev Saves : AllRows → FormValue → Step → Type 0
Saves rows form step = (d : List Deed) → IsSound d → HasRows rows d table_ids.Domain → IsMade rows d d (saved d form) step

pub returns-then-not-is_name : goal.returns-then-not-is_name
returns-then-not-is_name c =
    let rows = rows_of c.args.tables.now in
    if_ok {Q = Saves rows c.args.form} _ _ c.tells.ensures (λ step told d sound has.
    let bad = ap is_name (sym c.form_value-label.ensures) ∙ sym c.is_name.ensures ∙ c.if-not-is_name.true in
    holding_told rows d d _ _ _ _ c.in_ok-row.row step (ap not bad) c.in_ok-row.ensures told)

pub returns-then-branch : goal.returns-then-branch
returns-then-branch c =
    let rows = rows_of c.args.tables.now in
    let form = c.args.form in
    if_ok {Q = Saves rows form} _ _ c.tells-then-branch.ensures (λ step told d sound has.
    let good = ap is_name (sym c.form_value-label.ensures) ∙ sym c.is_name.ensures ∙ c.if-not-is_name.false in
    let name = c.in_ok-name.ensures ∙ c.form_value-label.ensures in
    let stays = sym (c.in_ok-stays_locked.ensures d sound has ∙ ap (λ (n : List ℕ). is_locked d n && is_locked_form form) name) ∙ c.if-branch.true in
    passed_if rows d d _ _ _ _ step (ap not good)
    (holding_told rows d d _ _ _ _ c.in_ok-row-2.row step stays (c.in_ok-row-2.ensures ∙ ap (λ (n : List ℕ). refusal_row (LabelLocked n)) name) told))

pub returns : goal.returns
returns c =
    let rows = rows_of c.args.tables.now in
    let form = c.args.form in
    if_ok {Q = Saves rows form} _ _ c.keep_form.ensures (λ step made d sound has.
    let good = ap is_name (sym c.form_value-label.ensures) ∙ sym c.is_name.ensures ∙ c.if-not-is_name.false in
    let name = c.in_ok-name.ensures ∙ c.form_value-label.ensures in
    let stays = sym (c.in_ok-stays_locked.ensures d sound has ∙ ap (λ (n : List ℕ). is_locked d n && is_locked_form form) name) ∙ c.if-branch.false in
    passed_if rows d d _ _ _ _ step (ap not good) (passed_if rows d d _ _ _ _ step stays (made rows d)))
