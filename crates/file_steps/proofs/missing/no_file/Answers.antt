use Rattle.std.proofs.Common.{List, ℕ, ap, ◌∙◌}
use Rattle.depot_rows.specs.depot_model.Refusals.{refusal_row}
use Rattle.depot_rows.specs.depot_model.declared.refusal.Refusal.TheVariants.{NoSuchFile}
use Rattle.reply_rows.proofs.Joined.{made_refusal}
use Rattle.file_steps.proofs.missing.no_file.Goals as goal

pub returns : goal.returns
returns c = λ all d e.
    made_refusal all d e (NoSuchFile c.args.argument.now.text) c.in_ok-row.row c.in_ok-step.step
    (c.in_ok-row.ensures ∙ ap (λ (x : List ℕ). refusal_row (NoSuchFile x)) c.as_bytes.ensures) c.in_ok-step.ensures
