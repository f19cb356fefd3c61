use Rattle.wire_text.proofs.Pieces.{first_failed, then_all}
use Rattle.depot_follow.proofs.telling.give_node_shut.Goals as goal

pub returns-in-Err-clause-given : goal.returns-in-Err-clause-given
returns-in-Err-clause-given g c = first_failed _ _ _ _ _ c.in-Err.ensures.given

pub returns-in-Ok-clause-given : goal.returns-in-Ok-clause-given
returns-in-Ok-clause-given g c = then_all _ _ _ _ _ _ c.in-Ok.ensures.given.whole (rw c.cause_of_fault.ensures at c.give_cause.ensures.given)
