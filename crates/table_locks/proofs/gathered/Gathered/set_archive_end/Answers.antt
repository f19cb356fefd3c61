use Rattle.table_locks.proofs.Ends.{shown_still}
use Rattle.table_locks.proofs.gathered.Gathered.set_archive_end.Goals as goal

pub returns-clause-shown : goal.returns-clause-shown
returns-clause-shown g c = shown_still c.args.self.now c.set_archive_end.new.self c.set_archive_end.ensures.versions g.N.Naming.rows
