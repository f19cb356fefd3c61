use Rattle.p4_server.proofs.load.ended_load.Goals as goal

pub returns-clause-told : goal.returns-clause-told
returns-clause-told g c = rw c.as_slice.ensures at (rw c.cause_of_load-led.ensures at c.tell-cause.ensures)
