use Rattle.std.proofs.Common.{sym, ap, ◌∙◌}
use Rattle.std.specs.Prelude.{option_map}
use Rattle.depot_rows.specs.depot_model.declared.command.Command.{Command}
use Rattle.depot_rows.specs.depot_model.declared.refusal.Refusal.TheVariants.{Shelved}
use Rattle.depot_rows.specs.depot_model.Common.{last_refusals}
use Rattle.depot_rows.specs.depot_model.Refusals.{refusal_row}
use Rattle.depot_rows.specs.depot_model.Shelves.{is_shelved}
use Rattle.depot_rows.specs.depot_model.Step.{refuse_if}
use Rattle.command_core.proofs.Refusals.{one_refusal}
use Rattle.reply_rows.specs.Refusing.{first_of}
use Rattle.command_core.proofs.refusing.last_refusal.Goals as goal

pub returns-in_ok-shelved-in-SubmitChange : goal.returns-in_ok-shelved-in-SubmitChange
returns-in_ok-shelved-in-SubmitChange c = λ d sound domain.
    let change = c.in-SubmitChange.change in
    c.in_ok-shelved-in-SubmitChange.ensures d sound domain ∙ one_refusal (refuse_if (is_shelved d change) (Shelved change))
    ∙ ap (λ (k : Command). option_map refusal_row (first_of (last_refusals d k))) (sym c.in-SubmitChange.is)

pub returns-in_ok-held-in-ChangeDelete : goal.returns-in_ok-held-in-ChangeDelete
returns-in_ok-held-in-ChangeDelete c = λ d sound domain.
    c.in_ok-held-in-ChangeDelete.ensures d sound domain
    ∙ ap (λ (k : Command). option_map refusal_row (first_of (last_refusals d k))) (sym c.in-ChangeDelete.is)
