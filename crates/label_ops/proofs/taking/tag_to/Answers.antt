use Rattle.std.proofs.Common.{[], sym, subst}
use Rattle.depot_rows.specs.depot_model.Step.{Step as ModelStep, nothing}
use Rattle.reply_rows.specs.Made.{IsMade}
use Rattle.reply_rows.specs.declared.step.Step.{Step}
use Rattle.reply_rows.proofs.Bare.{tells_made}
use Rattle.label_ops.proofs.Tags.{changes, stays}
use Rattle.label_ops.proofs.taking.tag_to.Goals as goal

pub returns-then-stays : goal.returns-then-stays
returns-then-stays c = λ all d e.
    subst (λ (m : ModelStep). IsMade all d e m c.new-step.result) (stays c.args.label.now c.args.path.now c.args.old c.args.new c.if-stays.true)
    (subst (λ (s : Step). IsMade all d e nothing s) (sym c.new-step.ensures) (tells_made all d e [] tt))

pub returns-in_ok-step : goal.returns-in_ok-step
returns-in_ok-step c = λ all d e.
    subst (λ (m : ModelStep). IsMade all d e m c.in_ok-step.step) (changes c.args.label.now c.args.path.now c.args.old c.args.new c.if-stays.false) (c.in_ok-step.ensures all d e)
