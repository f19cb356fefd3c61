-- A replica's answer, whatever its error.
use Rattle.std.proofs.Common.{Result, Ok, Err}
use Rattle.outside_api.specs.Says.{DiskSays}
use Rattle.replica_turns.specs.Going.{IsTurned}
use Rattle.replica_turns.specs.declared.party.Answered.{Answered}
use Rattle.replica_turns.specs.declared.party.ReplicaParty.{ReplicaParty}
use Rattle.replica_turns.specs.serial_depot.declared.depot.SerialDepot.{SerialDepot}

-- the same answer, whatever its error
abbrev pub plain : {E : Type 0} → Result Answered E → Result Answered (Unit {0})
plain (Ok answered) = Ok answered
plain (Err error) = Err tt

pub turned_plain : {D E : Type 0} (disk_says : DiskSays D) (depot : SerialDepot D) (old new : ReplicaParty) (result : Result Answered E) → IsTurned disk_says depot old new result → IsTurned disk_says depot old new (plain result)
turned_plain disk_says depot old new (Ok answered) t = record { request = t.request; left = t.left; answered = t.answered }
turned_plain disk_says depot old new (Err error) t = record { request = t.request; left = t.left; answered = t.answered }
