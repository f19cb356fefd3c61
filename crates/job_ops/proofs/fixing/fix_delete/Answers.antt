use Rattle.std.proofs.Common.{ℕ, List, take, sym, subst, ◌∙◌}
use Rattle.std.proofs.lemmas.List.{take_all}
use Rattle.depot_rows.specs.db_records.declared.table.TableId.TheVariants as table_ids
use Rattle.depot_rows.specs.table_changes.Changed.{rows_of}
use Rattle.depot_rows.specs.depot_model.Deeds.{Deed}
use Rattle.depot_rows.specs.depot_model.Rules.{IsSound}
use Rattle.depot_rows.specs.depot_model.Step.{after, all_of}
use Rattle.depot_rows.specs.depot_model.Steps.Jobs.{fix_delete, unfix_job}
use Rattle.depot_rows.specs.Standing.{HasRows}
use Rattle.reply_rows.specs.declared.step.Step.{Step}
use Rattle.reply_rows.specs.Made.{IsMade}
use Rattle.command_parts.proofs.Refused.{granted_made, if_ok, none_found, refused_made}
use Rattle.job_fixes.proofs.Steps.{front}
use Rattle.job_ops.specs.Refusals.{named_refusals}
use Rattle.job_ops.proofs.Stepping.{no_step, step_more}
use Rattle.job_ops.proofs.fixing.fix_delete.Goals as goal

pub returns-in-Some : goal.returns-in-Some
returns-in-Some c =
    let rows = rows_of c.args.tables.now in
    let n = c.args.change in
    let names = c.args.names.now in
    let Q : Step → Type 0 = λ step. (d : List Deed) → IsSound d → HasRows rows d table_ids.Domain → HasRows rows d table_ids.Change → IsMade rows d d (fix_delete d n names) step in
    if_ok {Q = Q} _ _ c.tells.ensures (λ step told d sound forms changes.
    refused_made rows d (named_refusals d n names) _ c.in-Some.row step (sym c.in-Some.is ∙ c.in_ok-row.ensures d sound forms changes) told)

pub loop-name-init : goal.loop-name-init
loop-name-init c = λ d sound has. no_step (rows_of c.args.tables.now) d d (unfix_job d c.args.change) c.new-step.result c.new-step.ensures

pub loop-name-preserved : goal.loop-name-preserved
loop-name-preserved c = λ d sound has.
    let rows = rows_of c.args.tables.now in
    let each = c.as_slice-each.result.now in
    let i = c.loop-name.name-index in
    let name = c.name-item.result in
    let act = unfix_job d c.args.change in
    let said = c.in_ok-add.ensures in
    let before = after d (all_of act (take i each)).deeds in
    subst (λ (l : List (List ℕ)). IsMade rows d d (all_of act l) c.add.new.self) (sym (front each i name c.loop-name-test.true c.name-item.is))
    (step_more rows d d act (take i each) name c.loop-name.step c.in_ok-more.more c.add.new.self (c.loop-name.invariant d sound has)
    (subst (λ (n : List ℕ). IsMade rows d before (act n) c.in_ok-more.more) c.as_bytes.ensures (c.in_ok-more.ensures d before sound has))
    said.deeds said.rows said.stores said.reads)

pub returns : goal.returns
returns c = λ d sound forms changes.
    let rows = rows_of c.args.tables.now in
    let n = c.args.change in
    let names = c.args.names.now in
    let step = c.loop-name.step in
    let each = c.as_slice-each.ensures ∙ c.in_ok-jobs.ensures in
    granted_made rows d (named_refusals d n names) _ step (sym (none_found _ c.in_default.not-Some) ∙ c.in_ok-row.ensures d sound forms changes)
    (subst (λ (l : List (List ℕ)). IsMade rows d d (all_of (unfix_job d n) l) step) (take_all c.loop-name.name-index c.as_slice-each.result.now c.loop-name-test.false ∙ each)
    (c.loop-name.invariant d sound forms))
