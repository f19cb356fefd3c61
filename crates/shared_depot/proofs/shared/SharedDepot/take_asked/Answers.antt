use Rattle.shared_depot.proofs.shared.SharedDepot.take_asked.Goals as goal

pub attempt-requires : goal.attempt-requires
attempt-requires g c = rw (c.loop-look.invariant.0, c.loop-look.invariant.1) c.requires

pub attempt-requires-2 : goal.attempt-requires-2
attempt-requires-2 g c = rw (c.loop-look.invariant.0, c.loop-look.invariant.1) c.requires
