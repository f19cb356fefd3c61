use Rattle.std.proofs.Common.{ℕ, List, [], ap, ◌∙◌}
use Rattle.depot_rows.specs.depot_path.Path.{printed}
use Rattle.depot_rows.specs.table_changes.Changed.{AllRows}
use Rattle.depot_rows.specs.depot_model.declared.refusal.Refusal.TheVariants.{NotInView}
use Rattle.depot_rows.specs.depot_model.Deeds.{Deed}
use Rattle.depot_rows.specs.depot_model.Refusals.{refusal_row}
use Rattle.depot_rows.specs.Deed.{opening_of}
use Rattle.reply_rows.specs.Made.{IsMade}
use Rattle.reply_rows.specs.declared.step.Step.{Step}
use Rattle.reply_rows.proofs.Joined.{made_refusal}
use Rattle.command_parts.proofs.Refused.{first_told, if_ok, passed_first}
use Rattle.opened_files.specs.Moves.{moves_nowhere}
use Rattle.opened_files.proofs.moving.no_target.Goals as goal

pub returns-in-Some : goal.returns-in-Some
returns-in-Some c =
    let Q : Step → Type 0 = λ step. (all : AllRows) (d e : List Deed) → IsMade all d e (moves_nowhere (opening_of c.args.opening.now) c.args.text.now) step in
    if_ok {Q = Q} _ _ c.tells.ensures (λ step told all d e. first_told all d e _ [] _ _ c.in-Some.row step c.in-Some.is c.in_ok-row.ensures told)

pub returns : goal.returns
returns c =
    let Q : Step → Type 0 = λ step. (all : AllRows) (d e : List Deed) → IsMade all d e (moves_nowhere (opening_of c.args.opening.now) c.args.text.now) step in
    if_ok {Q = Q} _ _ c.tells-2.ensures (λ step told all d e.
    passed_first all d e _ [] _ _ step c.in_default.not-Some c.in_ok-row.ensures
    (made_refusal all d e (NotInView (printed c.args.text.now)) c.in_ok-row-2.row step
    (c.in_ok-row-2.ensures ∙ ap (λ (p : List ℕ). refusal_row (NotInView p)) (c.as_bytes-2.ensures ∙ c.in_ok-printed.ensures ∙ ap printed c.as_bytes.ensures)) told))
