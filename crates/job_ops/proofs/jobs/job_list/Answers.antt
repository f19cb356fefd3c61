use Rattle.std.proofs.Common.{◌+◌, ◌++◌, ℕ, List, drop, ap, sym, subst, append-nil, ◌∙◌}
use Rattle.std.specs.Option.{option_to_list}
use Rattle.std.specs.Prelude.{filter_map, map, option_map}
use Rattle.std.proofs.lemmas.List.{drop_all}
use Rattle.depot_rows.specs.table_changes.Changed.{rows_of}
use Rattle.depot_rows.specs.depot_model.Fixes.{job}
use Rattle.depot_rows.specs.depot_model.Steps.Jobs.{job_row, jobs}
use Rattle.reply_rows.specs.declared.step.Step.{Step}
use Rattle.reply_rows.specs.Made.{IsMade}
use Rattle.job_fixes.proofs.Steps.{back}
use Rattle.job_ops.proofs.JobRows.{jobs_made, row_more}
use Rattle.job_ops.proofs.jobs.job_list.Goals as goal

pub loop-name-preserved : goal.loop-name-preserved
loop-name-preserved c = λ d sound has.
    let names = c.as_slice-names.result.now in
    let i = c.loop-name.name-index in
    let name = c.name-item.result in
    let rest = drop (i + 1) names in
    let before = c.loop-name.rows in
    row_more job_row before c.push_job.new.rows (job d name) (filter_map (job d) rest)
    (c.in_ok-push_job.ensures d sound has ∙ ap (λ (n : List ℕ). before ++ option_to_list (option_map job_row (job d n))) c.as_bytes.ensures)
    ∙ ap (λ (ps : List (List ℕ)). before ++ map job_row (filter_map (job d) ps)) (sym (back names i name c.loop-name-test.true c.name-item.is))
    ∙ c.loop-name.invariant d sound has

pub returns : goal.returns
returns c = λ d sound has.
    let names = c.as_slice-names.result.now in
    let rows = c.loop-name.rows in
    let told = λ (l : List (List ℕ)). map job_row (filter_map (job d) l) in
    let is = sym (append-nil rows) ∙ ap (λ (l : List (List ℕ)). rows ++ told l) (sym (drop_all c.loop-name.name-index names c.loop-name-test.false)) ∙ c.loop-name.invariant d sound has
    ∙ ap told (c.as_slice-names.ensures ∙ c.in_ok-jobs.ensures d has) in
    subst (λ (s : Step). IsMade (rows_of c.args.tables.now) d d (jobs d) (record s { rows = rows })) (sym c.new.ensures) (jobs_made (rows_of c.args.tables.now) d rows is)
