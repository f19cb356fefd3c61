use Rattle.disk_journal.specs.Made.{made}
use Rattle.library_tests.proofs.callers.fresh_journal.Goals as goal

pub returns-in-Ok : goal.returns-in-Ok
returns-in-Ok g c = (made, c.adopt.ensures.stands made c.in-Ok.ensures.made)
