use Rattle.replica_turns.proofs.Exits.{leaves_written}
use Rattle.replica_turns.proofs.laws.depots_leave_what_was_written.Goals as goal

pub returns : goal.returns
returns g c = λ past start places depot all since ran master. leaves_written g.D.Disk.says past start places since depot ran all master
