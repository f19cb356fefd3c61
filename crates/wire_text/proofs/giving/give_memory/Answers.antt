use Rattle.std.specs.Fmt.{digits}
use Rattle.wire_text.proofs.Pieces.{first_failed, then_all}
use Rattle.wire_text.proofs.giving.give_memory.Goals as goal

pub returns-in-Err-clause-given : goal.returns-in-Err-clause-given
unfolding digits
returns-in-Err-clause-given g c = first_failed _ _ _ _ _ c.in-Err.ensures.given

pub returns-in-Ok-clause-given : goal.returns-in-Ok-clause-given
unfolding digits
returns-in-Ok-clause-given g c = then_all _ _ _ _ _ _ c.in-Ok.ensures.given.whole c.give_end.ensures.given
