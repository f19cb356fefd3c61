use Rattle.std.proofs.Common.{◌∷◌, ℕ, List, [], Option, length, take, sym, ap, subst, ◌∙◌}
use Rattle.std.specs.Prelude.{nat_lt}
use Rattle.std.proofs.lemmas.List.{take_all}
use Rattle.depot_rows.specs.db_records.declared.table.TableId.TheVariants as table_ids
use Rattle.depot_rows.specs.spec_form.Form.{FormValue}
use Rattle.depot_rows.specs.table_changes.Changed.{AllRows, rows_of}
use Rattle.depot_rows.specs.depot_model.declared.refusal.Limit.TheVariants.{Fixes}
use Rattle.depot_rows.specs.depot_model.declared.refusal.Refusal.{Refusal}
use Rattle.depot_rows.specs.depot_model.declared.refusal.Refusal.TheVariants.{OverLimit}
use Rattle.depot_rows.specs.depot_model.declared.request.Caller.{Caller}
use Rattle.depot_rows.specs.depot_model.Deeds.{Deed}
use Rattle.depot_rows.specs.depot_model.Rules.{IsSound}
use Rattle.depot_rows.specs.depot_model.Step.{Step as ModelStep, after, all_of, refuse_if}
use Rattle.depot_rows.specs.depot_model.Steps.Jobs.{distinct, fix, fix_job, fixes_then}
use Rattle.depot_rows.specs.Standing.{HasRows}
use Rattle.reply_rows.specs.declared.step.Step.{Step}
use Rattle.reply_rows.specs.Made.{IsMade}
use Rattle.command_parts.proofs.Refused.{granted_made, holding_told, if_ok, none_found, passed_if, refused_made}
use Rattle.job_fixes.proofs.Steps.{front}
use Rattle.job_ops.specs.Refusals.{named_refusals}
use Rattle.job_ops.proofs.ChangeRows.{are_few, are_many, fixes_are_then}
use Rattle.job_ops.proofs.Refusing.{unless_behind}
use Rattle.job_ops.proofs.Stepping.{no_step, step_more}
use Rattle.job_ops.proofs.fixing.fix.Goals as goal

abbrev Fixing : AllRows → Caller → ℕ → List (List ℕ) → Step → Type 0
Fixing rows caller n names step = (d : List Deed) → IsSound d → HasRows rows d table_ids.Domain → HasRows rows d table_ids.Change → IsMade rows d d (fix d caller n names) step

abbrev room : List Deed → ℕ → List (List ℕ) → List (Option Refusal)
room d n names = refuse_if (nat_lt 100 (fixes_then d n names)) (OverLimit Fixes) ∷ []

abbrev own : List Deed → Caller → ℕ → List (List ℕ) → ModelStep
own d caller n names = all_of (fix_job d caller n) (distinct names)

pub returns-in-Some : goal.returns-in-Some
returns-in-Some c =
    let rows = rows_of c.args.tables.now in
    let caller = c.args.caller.now in
    let n = c.args.change in
    let names = c.args.names.now in
    if_ok {Q = Fixing rows caller n names} _ _ c.tells.ensures (λ step told d sound forms changes.
    subst (λ (m : ModelStep). IsMade rows d d m step) (unless_behind (named_refusals d n names) (room d n names) (own d caller n names))
    (refused_made rows d (named_refusals d n names) _ c.in-Some.row step (sym c.in-Some.is ∙ c.in_ok-row.ensures d sound forms changes) told))

pub returns-then-all-gt100 : goal.returns-then-all-gt100
returns-then-all-gt100 c =
    let rows = rows_of c.args.tables.now in
    let caller = c.args.caller.now in
    let n = c.args.change in
    let names = c.args.names.now in
    if_ok {Q = Fixing rows caller n names} _ _ c.tells-then-all-gt100.ensures (λ step told d sound forms changes.
    let each = c.as_slice-each.ensures ∙ c.in_ok-jobs.ensures in
    let sums = fixes_are_then d n names c.as_slice-each.result.now c.len-there.result c.in_ok-new.new each
    (c.len-there.ensures ∙ ap (λ (l : List FormValue). length l) (c.in_ok-fixes_of.ensures d sound forms)) (c.in_ok-new.ensures d sound forms) in
    let full = ap (nat_lt 100) (sym sums) ∙ are_many c.len-there.result c.in_ok-new.new c.saturating_add-all.result c.saturating_add-all.ensures c.if-all-gt100.true in
    subst (λ (m : ModelStep). IsMade rows d d m step) (unless_behind (named_refusals d n names) (room d n names) (own d caller n names))
    (granted_made rows d (named_refusals d n names) _ step (sym (none_found _ c.in_default.not-Some) ∙ c.in_ok-row.ensures d sound forms changes)
    (holding_told rows d d _ _ _ _ c.in_ok-row-2.row step full c.in_ok-row-2.ensures told)))

pub loop-name-init : goal.loop-name-init
loop-name-init c = λ d sound has landed. no_step (rows_of c.args.tables.now) d d (fix_job d c.args.caller.now c.args.change) c.new-step.result c.new-step.ensures

pub loop-name-preserved : goal.loop-name-preserved
loop-name-preserved c = λ d sound has landed.
    let rows = rows_of c.args.tables.now in
    let each = c.as_slice-each.result.now in
    let i = c.loop-name.name-index in
    let name = c.name-item.result in
    let act = fix_job d c.args.caller.now c.args.change in
    let said = c.in_ok-add.ensures in
    let before = after d (all_of act (take i each)).deeds in
    subst (λ (l : List (List ℕ)). IsMade rows d d (all_of act l) c.add.new.self) (sym (front each i name c.loop-name-test.true c.name-item.is))
    (step_more rows d d act (take i each) name c.loop-name.step c.in_ok-more.more c.add.new.self (c.loop-name.invariant d sound has landed)
    (subst (λ (n : List ℕ). IsMade rows d before (act n) c.in_ok-more.more) c.as_bytes.ensures (c.in_ok-more.ensures d before sound has landed))
    said.deeds said.rows said.stores said.reads)

pub returns : goal.returns
returns c = λ d sound forms changes.
    let rows = rows_of c.args.tables.now in
    let caller = c.args.caller.now in
    let n = c.args.change in
    let names = c.args.names.now in
    let step = c.loop-name.step in
    let each = c.as_slice-each.ensures ∙ c.in_ok-jobs.ensures in
    let sums = fixes_are_then d n names c.as_slice-each.result.now c.len-there.result c.in_ok-new.new each
    (c.len-there.ensures ∙ ap (λ (l : List FormValue). length l) (c.in_ok-fixes_of.ensures d sound forms)) (c.in_ok-new.ensures d sound forms) in
    let few = ap (nat_lt 100) (sym sums) ∙ are_few c.len-there.result c.in_ok-new.new c.saturating_add-all.result c.saturating_add-all.ensures c.if-all-gt100.false in
    subst (λ (m : ModelStep). IsMade rows d d m step) (unless_behind (named_refusals d n names) (room d n names) (own d caller n names))
    (granted_made rows d (named_refusals d n names) _ step (sym (none_found _ c.in_default.not-Some) ∙ c.in_ok-row.ensures d sound forms changes)
    (passed_if rows d d _ _ _ _ step few
    (subst (λ (l : List (List ℕ)). IsMade rows d d (all_of (fix_job d caller n) l) step)
    (take_all c.loop-name.name-index c.as_slice-each.result.now c.loop-name-test.false ∙ each)
    (c.loop-name.invariant d sound forms (c.is_landed-landed.ensures d sound changes)))))
