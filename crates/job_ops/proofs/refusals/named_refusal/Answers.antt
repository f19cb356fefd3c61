use Rattle.std.proofs.Common.{◌≡◌, ◌+◌, ℕ, true, false, List, drop, sym, ap, ◌∙◌}
use Rattle.std.specs.Prelude.{is_none, is_some, map, not, option_map}
use Rattle.std.proofs.lemmas.List.{drop_all}
use Rattle.depot_rows.specs.depot_model.declared.refusal.Refusal.TheVariants.{NoSuchChange, NoSuchJob}
use Rattle.depot_rows.specs.depot_model.Fixes.{job}
use Rattle.depot_rows.specs.depot_model.Refusals.{refusal_row}
use Rattle.depot_rows.specs.depot_model.Steps.Jobs.{is_change, no_job}
use Rattle.reply_rows.specs.Refusing.{first_of}
use Rattle.job_fixes.proofs.Steps.{back}
use Rattle.job_ops.proofs.ChangeRows.{change_there, some_there}
use Rattle.job_ops.proofs.Refusing.{first_held, first_passed}
use Rattle.job_ops.proofs.refusals.named_refusal.Goals as goal

pub returns-then-is_none : goal.returns-then-is_none
returns-then-is_none c = λ d sound forms changes.
    let n = c.args.change in
    let gone : is_change d n ≡ false =
    sym (change_there d n) ∙ ap is_some (sym (c.change_of.ensures d changes)) ∙ sym (some_there c.change_of.result) ∙ c.is_none.ensures ∙ ap not c.if-is_none.true in
    first_held (not (is_change d n)) (NoSuchChange n) (map (no_job d) c.args.names.now) c.in_ok-row.row (ap not gone) c.in_ok-row.ensures

pub loop-name-init : goal.loop-name-init
loop-name-init c = λ d sound forms changes.
    let n = c.args.change in
    let there : is_change d n ≡ true =
    sym (change_there d n) ∙ ap is_some (sym (c.change_of.ensures d changes)) ∙ sym (some_there c.change_of.result) ∙ c.is_none.ensures ∙ ap not c.if-is_none.false in
    first_passed (not (is_change d n)) (NoSuchChange n) (map (no_job d) c.args.names.now) (ap not there)

pub returns-then-is_none-2 : goal.returns-then-is_none-2
returns-then-is_none-2 c = λ d sound forms changes.
    let names = c.args.names.now in
    let i = c.loop-name.name-index in
    let name = c.name-item.result in
    let gone : is_none (job d name) ≡ true =
    ap is_none (sym (c.in_ok-job.ensures d sound forms ∙ ap (job d) c.as_bytes.ensures)) ∙ ap not (c.is_none-in-loop-name.ensures ∙ ap not c.if-is_none-2.true) in
    first_held (is_none (job d name)) (NoSuchJob name) (map (no_job d) (drop (i + 1) names)) c.in_ok-row-2.row gone
    (c.in_ok-row-2.ensures ∙ ap (λ (n : List ℕ). refusal_row (NoSuchJob n)) c.as_bytes-then-is_none-2.ensures)
    ∙ ap (λ (l : List (List ℕ)). option_map refusal_row (first_of (map (no_job d) l))) (sym (back names i name c.loop-name-test.true c.name-item.is))
    ∙ c.loop-name.invariant d sound forms changes

pub loop-name-preserved : goal.loop-name-preserved
loop-name-preserved c = λ d sound forms changes.
    let names = c.args.names.now in
    let i = c.loop-name.name-index in
    let name = c.name-item.result in
    let there : is_none (job d name) ≡ false =
    ap is_none (sym (c.in_ok-job.ensures d sound forms ∙ ap (job d) c.as_bytes.ensures)) ∙ ap not (c.is_none-in-loop-name.ensures ∙ ap not c.if-is_none-2.false) in
    first_passed (is_none (job d name)) (NoSuchJob name) (map (no_job d) (drop (i + 1) names)) there
    ∙ ap (λ (l : List (List ℕ)). option_map refusal_row (first_of (map (no_job d) l))) (sym (back names i name c.loop-name-test.true c.name-item.is))
    ∙ c.loop-name.invariant d sound forms changes

pub returns : goal.returns
returns c = λ d sound forms changes.
    ap (λ (l : List (List ℕ)). option_map refusal_row (first_of (map (no_job d) l))) (sym (drop_all c.loop-name.name-index c.args.names.now c.loop-name-test.false))
    ∙ c.loop-name.invariant d sound forms changes
