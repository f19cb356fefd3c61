use Rattle.std.proofs.Common.{ℕ, Bool, List, length, map, sym, ap, subst, ◌∙◌}
use Rattle.std.proofs.lemmas.Bool.{le-ltb, lt-ltb}
use Rattle.std.specs.Prelude.{◌&&◌, codes, fold, is_none, max, min, nat_le, nat_lt, not}
use Rattle.depot_rows.specs.db_records.declared.table.TableId.TheVariants as table_ids
use Rattle.depot_rows.specs.spec_form.Form.{FormValue}
use Rattle.depot_rows.specs.table_changes.Changed.{AllRows, rows_of}
use Rattle.depot_rows.specs.depot_model.declared.refusal.Refusal.TheVariants.{BadForm, NoSuchJob}
use Rattle.depot_rows.specs.depot_model.Deeds.{Deed}
use Rattle.depot_rows.specs.depot_model.Fixes.{job, job_number, last_job}
use Rattle.depot_rows.specs.depot_model.Refusals.{refusal_row}
use Rattle.depot_rows.specs.depot_model.Rules.{IsSound}
use Rattle.depot_rows.specs.depot_model.Steps.Jobs.{is_new, is_status, save_form, saved}
use Rattle.depot_rows.specs.depot_model.Values.{value_of}
use Rattle.depot_rows.specs.Standing.{HasRows}
use Rattle.reply_rows.specs.declared.step.Step.{Step}
use Rattle.reply_rows.specs.Made.{IsMade}
use Rattle.command_parts.proofs.Refused.{holding_told, if_ok, passed_if}
use Rattle.job_ops.proofs.Numbering.{has_room, is_last, is_next, new_name, old_name}
use Rattle.job_ops.proofs.saving.save_form.Goals as goal

abbrev Saves : AllRows → List ℕ → FormValue → Step → Type 0
Saves rows input form step = (d : List Deed) → IsSound d → HasRows rows d table_ids.Domain → IsMade rows d d (save_form d input form) step

abbrev unknown : List Deed → List ℕ → Bool
unknown d name = not (is_new name) && is_none (job d name)

abbrev greatest : List (List ℕ) → ℕ
greatest names = min 999999 (fold max 0 (map job_number names))

pub returns-then-not-is_status : goal.returns-then-not-is_status
returns-then-not-is_status c =
    let rows = rows_of c.args.tables.now in
    let form = c.args.form.now in
    if_ok {Q = Saves rows c.args.input.now form} _ _ c.tells.ensures (λ step told d sound has.
    let status = ap is_status (sym c.form_value.ensures) ∙ sym c.is_status.ensures ∙ c.if-not-is_status.true in
    holding_told rows d d _ _ _ _ c.in_ok-row.row step (ap not status)
    (c.in_ok-row.ensures ∙ ap (λ (n : ℕ). refusal_row (BadForm n)) c.field_place.ensures) told)

pub returns-then-branch : goal.returns-then-branch
returns-then-branch c =
    let rows = rows_of c.args.tables.now in
    let form = c.args.form.now in
    if_ok {Q = Saves rows c.args.input.now form} _ _ c.tells-then-branch.ensures (λ step told d sound has.
    let status = ap is_status (sym c.form_value.ensures) ∙ sym c.is_status.ensures ∙ c.if-not-is_status.false in
    let known = sym (c.in_ok-is_unknown.ensures d sound has ∙ ap (unknown d) c.form_value-name.ensures) ∙ c.if-branch.true in
    passed_if rows d d _ _ _ _ step (ap not status) (holding_told rows d d _ _ _ _ c.in_ok-row-2.row step known
    (c.in_ok-row-2.ensures ∙ ap (λ (n : List ℕ). refusal_row (NoSuchJob n)) c.form_value-name.ensures) told))

pub returns-then-len-gt65536 : goal.returns-then-len-gt65536
returns-then-len-gt65536 c =
    let rows = rows_of c.args.tables.now in
    let form = c.args.form.now in
    if_ok {Q = Saves rows c.args.input.now form} _ _ c.tells-then-len-gt65536.ensures (λ step told d sound has.
    let status = ap is_status (sym c.form_value.ensures) ∙ sym c.is_status.ensures ∙ c.if-not-is_status.false in
    let known = sym (c.in_ok-is_unknown.ensures d sound has ∙ ap (unknown d) c.form_value-name.ensures) ∙ c.if-branch.false in
    let text = ap (nat_lt 65536) (sym (c.len.ensures ∙ ap (λ (t : List ℕ). length t) c.in_ok-print.ensures.text)) ∙ lt-ltb 65536 c.len.result c.if-len-gt65536.true in
    passed_if rows d d _ _ _ _ step (ap not status) (passed_if rows d d _ _ _ _ step known
    (holding_told rows d d _ _ _ _ c.in_ok-row-3.row step text c.in_ok-row-3.ensures told)))

pub returns-then-not-is_new : goal.returns-then-not-is_new
returns-then-not-is_new c =
    let rows = rows_of c.args.tables.now in
    let form = c.args.form.now in
    if_ok {Q = Saves rows c.args.input.now form} _ _ c.keep.ensures (λ step made d sound has.
    let word = value_of form (codes "Job") in
    let status = ap is_status (sym c.form_value.ensures) ∙ sym c.is_status.ensures ∙ c.if-not-is_status.false in
    let known = sym (c.in_ok-is_unknown.ensures d sound has ∙ ap (unknown d) c.form_value-name.ensures) ∙ c.if-branch.false in
    let text = ap (nat_lt 65536) (sym (c.len.ensures ∙ ap (λ (t : List ℕ). length t) c.in_ok-print.ensures.text)) ∙ le-ltb 65536 c.len.result c.if-len-gt65536.false in
    let new = ap is_new (sym c.form_value-name.ensures) ∙ sym c.is_new.ensures ∙ c.if-not-is_new.true in
    passed_if rows d d _ _ _ _ step (ap not status) (passed_if rows d d _ _ _ _ step known (passed_if rows d d _ _ _ _ step text
    (passed_if rows d d _ _ _ _ step (ap (λ (b : Bool). b && nat_le 999999 (last_job d)) new)
    (subst (λ (n : List ℕ). IsMade rows d d (saved n form) step) (c.in_ok-name.ensures ∙ c.form_value-name.ensures ∙ old_name d word new) (made rows d))))))

pub returns-then-last-ge999999 : goal.returns-then-last-ge999999
returns-then-last-ge999999 c =
    let rows = rows_of c.args.tables.now in
    let form = c.args.form.now in
    if_ok {Q = Saves rows c.args.input.now form} _ _ c.tells-then-last-ge999999.ensures (λ step told d sound has.
    let status = ap is_status (sym c.form_value.ensures) ∙ sym c.is_status.ensures ∙ c.if-not-is_status.false in
    let known = sym (c.in_ok-is_unknown.ensures d sound has ∙ ap (unknown d) c.form_value-name.ensures) ∙ c.if-branch.false in
    let text = ap (nat_lt 65536) (sym (c.len.ensures ∙ ap (λ (t : List ℕ). length t) c.in_ok-print.ensures.text)) ∙ le-ltb 65536 c.len.result c.if-len-gt65536.false in
    let new = ap is_new (sym c.form_value-name.ensures) ∙ sym c.is_new.ensures ∙ c.if-not-is_new.false in
    let last = c.greatest_number-last.ensures ∙ ap greatest (c.as_slice.ensures ∙ c.in_ok-names.ensures d has) in
    passed_if rows d d _ _ _ _ step (ap not status) (passed_if rows d d _ _ _ _ step known (passed_if rows d d _ _ _ _ step text
    (holding_told rows d d _ _ _ _ c.in_ok-row-4.row step (λ i. new i && is_last (last_job d) c.greatest_number-last.result last c.if-last-ge999999.true i)
    c.in_ok-row-4.ensures told))))

pub returns : goal.returns
returns c =
    let rows = rows_of c.args.tables.now in
    let form = c.args.form.now in
    if_ok {Q = Saves rows c.args.input.now form} _ _ c.keep-2.ensures (λ step made d sound has.
    let word = value_of form (codes "Job") in
    let status = ap is_status (sym c.form_value.ensures) ∙ sym c.is_status.ensures ∙ c.if-not-is_status.false in
    let known = sym (c.in_ok-is_unknown.ensures d sound has ∙ ap (unknown d) c.form_value-name.ensures) ∙ c.if-branch.false in
    let text = ap (nat_lt 65536) (sym (c.len.ensures ∙ ap (λ (t : List ℕ). length t) c.in_ok-print.ensures.text)) ∙ le-ltb 65536 c.len.result c.if-len-gt65536.false in
    let new = ap is_new (sym c.form_value-name.ensures) ∙ sym c.is_new.ensures ∙ c.if-not-is_new.false in
    let last = c.greatest_number-last.ensures ∙ ap greatest (c.as_slice.ensures ∙ c.in_ok-names.ensures d has) in
    let is = has_room (last_job d) c.greatest_number-last.result last c.if-last-ge999999.false in
    passed_if rows d d _ _ _ _ step (ap not status) (passed_if rows d d _ _ _ _ step known (passed_if rows d d _ _ _ _ step text
    (passed_if rows d d _ _ _ _ step (λ i. new i && is_next (last_job d) c.greatest_number-last.result is c.if-last-ge999999.false i)
    (subst (λ (n : List ℕ). IsMade rows d d (saved n form) step) (c.in_ok-name-2.ensures ∙ new_name d word c.greatest_number-last.result new is) (made rows d))))))
