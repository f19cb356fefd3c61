use Rattle.std.proofs.Common.{ap, ◌∙◌}
use Rattle.std.specs.Prelude.{codes}
use Rattle.depot_rows.specs.spec_form.Form.{with_field}
use Rattle.job_ops.proofs.BlankForm.{blank_told}
use Rattle.job_ops.proofs.fixing.fix_form.Goals as goal

pub returns : goal.returns
returns c =
    let of_job = c.in_ok-of_job.ensures ∙ ap (with_field (codes "Job") c.args.job.now) (blank_told c.in-Ok.blank c.in-Ok.ensures.read) in
    c.in_ok-form.ensures
    ∙ ap (with_field (codes "User") c.args.user.now) (c.in_ok-of_change.ensures ∙ (λ i. with_field (codes "Change") ((c.as_bytes.ensures ∙ c.in_ok-number.ensures) i) (of_job i)))
