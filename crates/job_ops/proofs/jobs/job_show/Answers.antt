use Rattle.std.proofs.Common.{ℕ, List, Option, Some, None, refl, sym, ap, subst, ◌∙◌}
use Rattle.depot_rows.specs.db_records.declared.table.TableId.TheVariants as table_ids
use Rattle.depot_rows.specs.table_changes.Changed.{AllRows, rows_of}
use Rattle.depot_rows.specs.depot_model.declared.refusal.Refusal.TheVariants.{NoSuchJob}
use Rattle.depot_rows.specs.depot_model.declared.request.Caller.{Caller}
use Rattle.depot_rows.specs.depot_model.Deeds.{Deed}
use Rattle.depot_rows.specs.depot_model.Fixes.{job}
use Rattle.depot_rows.specs.depot_model.Refusals.{refusal_row}
use Rattle.depot_rows.specs.depot_model.Rows.{row}
use Rattle.depot_rows.specs.depot_model.Rules.{IsSound}
use Rattle.depot_rows.specs.depot_model.Steps.Jobs.{job_show, new_job}
use Rattle.depot_rows.specs.Standing.{HasRows}
use Rattle.reply_rows.specs.declared.step.Step.{Step}
use Rattle.reply_rows.specs.Made.{IsMade}
use Rattle.reply_rows.proofs.Joined.{made_row}
use Rattle.command_parts.proofs.Refused.{if_ok, none_found}
use Rattle.job_ops.proofs.JobRows.{show_made}
use Rattle.job_ops.proofs.jobs.job_show.Goals as goal

abbrev Shows : AllRows → Caller → Option (List ℕ) → Step → Type 0
Shows rows caller name step = (d : List Deed) → IsSound d → HasRows rows d table_ids.Domain → IsMade rows d d (job_show d caller name) step

pub returns-in_default : goal.returns-in_default
returns-in_default c =
    let rows = rows_of c.args.tables.now in
    let caller = c.args.caller.now in
    if_ok {Q = Shows rows caller c.args.name.now} _ _ c.tells.ensures (λ step told d sound has.
    subst (λ (name : Option (List ℕ)). IsMade rows d d (job_show d caller name) step) (sym (none_found _ c.in_default.not-Some))
    (made_row rows d d c.in_ok-row.row (new_job caller) step c.in_ok-row.ensures refl told))

pub returns-in_default-2 : goal.returns-in_default-2
returns-in_default-2 c =
    let rows = rows_of c.args.tables.now in
    if_ok {Q = Shows rows c.args.caller.now c.args.name.now} _ _ c.tells-in_default-2.ensures (λ step told d sound has.
    show_made rows d c.args.caller.now c.args.name.now _ None c.in_ok-row-2.row step c.in-Some.is
    (sym (none_found _ c.in_default-2.not-Some) ∙ c.in_ok-form.ensures d sound has ∙ ap (job d) c.as_bytes.ensures)
    (c.in_ok-row-2.ensures ∙ ap (λ (n : List ℕ). refusal_row (NoSuchJob n)) c.as_bytes-in_default-2.ensures) told)

pub returns : goal.returns
returns c =
    let rows = rows_of c.args.tables.now in
    if_ok {Q = Shows rows c.args.caller.now c.args.name.now} _ _ c.tells-2.ensures (λ step told d sound has.
    show_made rows d c.args.caller.now c.args.name.now _ (Some c.in-Some-2.form) c.row_of.result step c.in-Some.is
    (sym c.in-Some-2.is ∙ c.in_ok-form.ensures d sound has ∙ ap (job d) c.as_bytes.ensures) (c.row_of.ensures ∙ ap row c.in_ok-fields.ensures) told)
