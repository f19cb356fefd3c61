use Rattle.std.proofs.Common.{false, ap, ◌∙◌}
use Rattle.std.specs.Option.{option_map_or}
use Rattle.depot_rows.specs.depot_model.Deeds.{LabelForm}
use Rattle.depot_rows.specs.depot_model.Latest.{spec}
use Rattle.depot_rows.specs.depot_model.Steps.Labels.{is_locked_form}
use Rattle.row_reads.proofs.FormsRead.{locked_by}
use Rattle.row_reads.proofs.forms.is_locked_label.Goals as goal

pub returns : goal.returns
returns c = λ d sound has.
    c.locks-locked.ensures
    ∙ ap (λ form. option_map_or is_locked_form form false)
    (c.as_ref.ensures.value ∙ c.in_ok-form.ensures d sound has ∙ ap (spec d LabelForm) c.as_bytes.ensures.value)
    ∙ locked_by (spec d LabelForm c.args.name.now)
