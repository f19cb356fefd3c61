use Rattle.std.proofs.Common.{List, subst, ◌∙◌}
use Rattle.std.specs.Prelude.{flat_map}
use Rattle.depot_rows.specs.spec_form.Form.{FormValue}
use Rattle.depot_rows.specs.depot_model.Fixes.{closing}
use Rattle.job_fixes.specs.Telling.{Tells}
use Rattle.submit_core.proofs.fixes.close_jobs.Goals as goal

pub returns : goal.returns
returns c = λ d sound has.
    subst (λ (forms : List FormValue). Tells c.args.deeds.now c.add_closings.new.deeds (flat_map (closing d c.args.change c.args.number) forms))
    (c.as_slice.ensures ∙ c.in_ok-forms.ensures d sound has) (c.in_ok-add_closings.ensures d sound has)
