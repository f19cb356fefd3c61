use Rattle.std.proofs.Common.{sym, ◌∙◌}
use Rattle.depot_rows.specs.depot_model.About.{about}
use Rattle.depot_rows.specs.depot_model.Common.{common_refusals, last_refusals}
use Rattle.command_core.proofs.Refusals.{first_here, first_later}
use Rattle.command_core.proofs.refusing.first_refusal.Goals as goal

pub returns-in-Some : goal.returns-in-Some
returns-in-Some c = λ d sound who protect domain.
    first_here (common_refusals d c.args.caller.now (about c.args.command.now)) (last_refusals d c.args.command.now) c.in-Some.row
    (sym c.in-Some.is ∙ c.in_ok-common.ensures d sound who protect domain)

pub returns-in_ok-last-in-None : goal.returns-in_ok-last-in-None
returns-in_ok-last-in-None c = λ d sound who protect domain.
    c.in_ok-last-in-None.ensures d sound domain
    ∙ first_later (common_refusals d c.args.caller.now (about c.args.command.now)) (last_refusals d c.args.command.now)
    (sym c.in-None.is ∙ c.in_ok-common.ensures d sound who protect domain)
