use Rattle.std.proofs.Common.{List, ap, sym, subst, ◌∙◌}
use Rattle.std.specs.Prelude.{map}
use Rattle.std.proofs.lemmas.List.{take_all}
use Rattle.depot_rows.specs.spec_form.Form.{FormValue}
use Rattle.depot_rows.specs.table_changes.Changed.{rows_of}
use Rattle.depot_rows.specs.depot_model.Steps.Jobs.{fix_row, fixes}
use Rattle.reply_rows.specs.declared.step.Step.{Step}
use Rattle.reply_rows.specs.Made.{IsMade}
use Rattle.job_ops.proofs.JobRows.{fixes_made}
use Rattle.job_ops.proofs.fixes.fix_list.Goals as goal

pub returns : goal.returns
returns c = λ d sound has.
    let all = rows_of c.args.tables.now in
    let forms = c.as_slice-forms.result.now in
    let made = fixes_made all d c.args.change c.args.job.now c.loop-form.rows (c.loop-form.invariant ∙ ap (λ (l : List FormValue). map fix_row l)
    (take_all c.loop-form.form-index forms c.loop-form-test.false ∙ c.as_slice-forms.ensures ∙ c.in_ok-fixes.ensures d sound has)) in
    subst (λ (s : Step). IsMade all d d (fixes d c.args.change c.args.job.now) (record s { rows = c.loop-form.rows })) (sym c.new.ensures) made
