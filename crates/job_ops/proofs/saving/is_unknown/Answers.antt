use Rattle.std.proofs.Common.{◌≡◌, Bool, true, false, sym, ap, ◌∙◌}
use Rattle.std.specs.Prelude.{◌&&◌, is_none, is_some, not}
use Rattle.depot_rows.specs.depot_model.Fixes.{job}
use Rattle.job_ops.proofs.saving.is_unknown.Goals as goal

flip : (a b : Bool) → a ≡ not b → b ≡ not a
flip a true e = sym (ap not e)
flip a false e = sym (ap not e)

pub returns-then-is_new : goal.returns-then-is_new
returns-then-is_new c = λ d sound has. sym (ap (λ (new : Bool). not new && is_none (job d c.args.name.now)) (sym c.is_new.ensures ∙ c.if-is_new.true))

pub returns : goal.returns
returns c = λ d sound has.
    flip (is_some c.in_ok-job.job) c.is_none.result c.is_none.ensures ∙ ap is_none (c.in_ok-job.ensures d sound has)
    ∙ sym (ap (λ (new : Bool). not new && is_none (job d c.args.name.now)) (sym c.is_new.ensures ∙ c.if-is_new.false))
