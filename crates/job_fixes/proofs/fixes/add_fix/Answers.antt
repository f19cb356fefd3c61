use Rattle.std.proofs.Common.{sym, ap, ◌∙◌}
use Rattle.depot_rows.specs.depot_model.Deeds.{FixForm}
use Rattle.depot_rows.specs.depot_model.Latest.{spec}
use Rattle.job_fixes.specs.Fixes.{is_asked}
use Rattle.job_fixes.proofs.FixRows.{kept_in, left_out}
use Rattle.job_fixes.proofs.fixes.add_fix.Goals as goal

pub returns-in_ok-push : goal.returns-in_ok-push
returns-in_ok-push c = λ d sound has.
    c.in_ok-push.ensures.ok
    ∙ kept_in (is_asked c.args.change.now c.args.job.now) c.in-Some.form (spec d FixForm c.args.name.now) c.args.forms.now
    (sym c.in-Some.is ∙ c.in_ok-found.ensures d sound has ∙ ap (spec d FixForm) c.as_bytes.ensures) (sym c.is_asked.ensures ∙ c.if-is_asked.true)

pub returns-else-is_asked : goal.returns-else-is_asked
returns-else-is_asked c = λ d sound has.
    left_out (is_asked c.args.change.now c.args.job.now) c.in-Some.form (spec d FixForm c.args.name.now) c.args.forms.now
    (sym c.in-Some.is ∙ c.in_ok-found.ensures d sound has ∙ ap (spec d FixForm) c.as_bytes.ensures) (sym c.is_asked.ensures ∙ c.if-is_asked.false)
