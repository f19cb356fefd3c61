use Rattle.std.proofs.Common.{Option, false, sym, ap, ◌∙◌}
use Rattle.std.specs.Option.{option_map_or}
use Rattle.depot_rows.specs.spec_form.Form.{FormValue}
use Rattle.depot_rows.specs.depot_model.Deeds.{FixForm}
use Rattle.depot_rows.specs.depot_model.Fixes.{is_on}
use Rattle.depot_rows.specs.depot_model.Latest.{spec}
use Rattle.job_ops.proofs.ChangeRows.{on_fix}
use Rattle.job_ops.proofs.refusals.has_fix.Goals as goal

pub returns-in-Some : goal.returns-in-Some
returns-in-Some c = λ d sound has.
    c.is_on.ensures
    ∙ ap (λ (form : Option FormValue). option_map_or is_on form false)
    (sym c.in-Some.is ∙ c.in_ok-form.ensures d sound has ∙ ap (spec d FixForm) (c.as_bytes.ensures ∙ c.in_ok-key.ensures))
    ∙ on_fix d c.args.change c.args.name.now

pub returns : goal.returns
returns c = λ d sound has.
    ap (λ (form : Option FormValue). option_map_or is_on form false)
    (sym c.in-None.is ∙ c.in_ok-form.ensures d sound has ∙ ap (spec d FixForm) (c.as_bytes.ensures ∙ c.in_ok-key.ensures))
    ∙ on_fix d c.args.change c.args.name.now
