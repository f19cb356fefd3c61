use Rattle.depot_follow.proofs.telling.give_done.Goals as goal

pub returns-clause-given : goal.returns-clause-given
returns-clause-given g c =
    rw (c.as_bytes.ensures.value, c.format.ensures.text, c.as_bytes-2.ensures.value, c.format-2.ensures.text, c.as_bytes-3.ensures.value, c.format-3.ensures.text) at c.give_pieces.ensures.given
