use Rattle.std.proofs.Common.{sym, ◌∙◌}
use Rattle.command_core.proofs.Families.{is_left}
use Rattle.command_core.proofs.evaluation.files_step.Goals as goal

pub returns : goal.returns
returns c = λ d sound asked spec server job other formed has.
    c.in_ok-step.ensures d sound asked (is_left c.args.command.now spec (sym c.is_opening.ensures ∙ c.if-is_opening.false) (sym c.is_change.ensures ∙ c.if-is_change.false)
    (sym c.is_syncing.ensures ∙ c.if-is_syncing.false) (sym c.is_history.ensures ∙ c.if-is_history.false) server job other) formed has
