use Rattle.std.proofs.Common.{ℕ, List, ap, ◌∙◌}
use Rattle.depot_rows.specs.depot_path.Path.{printed}
use Rattle.depot_rows.specs.table_changes.Changed.{AllRows}
use Rattle.depot_rows.specs.depot_model.declared.refusal.Refusal.TheVariants.{NotInView}
use Rattle.depot_rows.specs.depot_model.Deeds.{Deed}
use Rattle.depot_rows.specs.depot_model.Refusals.{refusal_row}
use Rattle.depot_rows.specs.depot_model.Step.{refuses}
use Rattle.reply_rows.specs.Made.{IsMade}
use Rattle.reply_rows.specs.declared.step.Step.{Step}
use Rattle.reply_rows.proofs.Joined.{made_refusal}
use Rattle.command_parts.proofs.Refused.{if_ok}
use Rattle.integ_records.proofs.integrating.no_target.Goals as goal

pub returns : goal.returns
returns c =
    let why = NotInView (printed c.args.text.now) in
    let Q : Step → Type 0 = λ step. (all : AllRows) (d e : List Deed) → IsMade all d e (refuses why) step in
    if_ok {Q = Q} _ _ c.tells.ensures (λ step told all d e.
    made_refusal all d e why c.in_ok-row.row step
    (c.in_ok-row.ensures ∙ ap (λ (x : List ℕ). refusal_row (NotInView x)) (c.as_bytes-2.ensures ∙ c.in_ok-told.ensures ∙ ap printed c.as_bytes.ensures)) told)
