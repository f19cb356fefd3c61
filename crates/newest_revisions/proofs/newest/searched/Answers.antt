use Rattle.std.proofs.Common.{sym, ap, ◌∙◌}
use Rattle.revision_reads.specs.Choice.{choice_of}
use Rattle.newest_revisions.proofs.newest.searched.Goals as goal

pub returns-in-PassedOver : goal.returns-in-PassedOver
returns-in-PassedOver c = λ d sound has there. record { choice_is = ap choice_of (sym c.in-PassedOver.is) ∙ c.in_ok-chosen.ensures d sound there; has_row = tt }

pub returns-in_ok-row-in-At : goal.returns-in_ok-row-in-At
returns-in_ok-row-in-At c = λ d sound has there.
    record { choice_is = ap choice_of (sym c.in-At.is) ∙ c.in_ok-chosen.ensures d sound there; has_row = c.in_ok-row-in-At.ensures d has }
