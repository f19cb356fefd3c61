use Rattle.depot_commit.proofs.Moved.{fetched_none}
use Rattle.replica_turns.proofs.pulling.pull.Goals as goal

pub returns-in_err-of_fault-clause-fetched : goal.returns-in_err-of_fault-clause-fetched
returns-in_err-of_fault-clause-fetched g c = fetched_none g.D.Disk.says g.met.D.Disk.only_now c.args.journal.now

pub returns-in_err-room-clause-fetched : goal.returns-in_err-room-clause-fetched
returns-in_err-room-clause-fetched g c = fetched_none g.D.Disk.says g.met.D.Disk.only_now c.args.journal.now

pub returns-in_err-buffer-clause-fetched : goal.returns-in_err-buffer-clause-fetched
returns-in_err-buffer-clause-fetched g c = fetched_none g.D.Disk.says g.met.D.Disk.only_now c.args.journal.now
