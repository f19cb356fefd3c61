use Rattle.wire_text.proofs.Pieces.{first_failed, then_all}
use Rattle.wire_text.proofs.giving.give_end.Goals as goal

pub returns-in-Err-clause-given : goal.returns-in-Err-clause-given
returns-in-Err-clause-given g c =
    first_failed _ _ _ _ _ (rw (c.as_bytes.ensures.value, c.format.ensures.text) at c.in-Err.ensures.given)

pub returns-in-Ok-clause-given : goal.returns-in-Ok-clause-given
returns-in-Ok-clause-given g c =
    let whole = rw (c.as_bytes.ensures.value, c.format.ensures.text) at c.in-Ok.ensures.given in
    then_all _ _ _ _ _ _ whole.whole c.give_all-in-Ok.ensures.given
