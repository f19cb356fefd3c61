use Rattle.std.proofs.Common.{List, ℕ, ap, ◌∙◌}
use Rattle.depot_rows.specs.depot_model.declared.refusal.Refusal.TheVariants.{NotInView}
use Rattle.depot_rows.specs.depot_model.Refusals.{refusal_row}
use Rattle.reply_rows.proofs.Joined.{made_refusal}
use Rattle.have_sync.proofs.placing.ToldFilesFileFinder.missing.Goals as goal

pub returns : goal.returns
returns c = λ all d e spells.
    made_refusal all d e (NotInView c.args.argument.now.text) c.in_ok-row.row c.in_ok-step.step
    (c.in_ok-row.ensures ∙ ap (λ (x : List ℕ). refusal_row (NotInView x)) c.as_bytes.ensures) c.in_ok-step.ensures
