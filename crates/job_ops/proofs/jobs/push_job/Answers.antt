use Rattle.std.proofs.Common.{◌++◌, ◌∷◌, [], Option, sym, ap, ◌∙◌}
use Rattle.std.specs.Option.{option_to_list}
use Rattle.std.specs.Prelude.{option_map}
use Rattle.depot_rows.specs.spec_form.Form.{FormValue}
use Rattle.depot_rows.specs.depot_model.declared.reply.Row.{Row}
use Rattle.depot_rows.specs.depot_model.Steps.Jobs.{job_row}
use Rattle.job_ops.proofs.jobs.push_job.Goals as goal

pub returns-in_ok-push : goal.returns-in_ok-push
returns-in_ok-push c = λ d sound has.
    let rows = c.args.rows.now in
    c.in_ok-push.ensures.ok ∙ ap (λ (r : Row). rows ++ r ∷ []) c.in_ok-job_row.ensures
    ∙ ap (λ (f : Option FormValue). rows ++ option_to_list (option_map job_row f)) (sym c.in-Some.is ∙ c.in_ok-form.ensures d sound has)
