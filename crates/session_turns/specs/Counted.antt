-- What a run of drawn turns gives its replicas. This project's own choice.
use Rattle.std.specs.Prelude.{ℕ, Bool, List, [], All, Option}
use Rattle.outside_api.specs.Says.{DiskSays}
use Rattle.depot_rows.specs.depot_model.Deeds.{Deed}
use Rattle.depot_rows.specs.depot_model.declared.order.Place.{Place}
use Rattle.depot_rows.specs.depot_model.declared.request.Session.{Session}
use Rattle.run_parties.specs.Replicas.{AreReplicasServed, AreReplicasTold}
use Rattle.run_parties.specs.replica_turns.Master.{IsMaster, Past}
use Rattle.run_parties.specs.depot_commit.Growing.{Chronicle}
use Rattle.run_parties.specs.serial_depot.declared.depot.SerialDepot.{SerialDepot}
use Rattle.session_loop.specs.Asking.{AreWellFormed, replica_commands}
use Rattle.session_loop.specs.declared.reading.ReplicaScript.{ReplicaScript}
use Rattle.session_loop.specs.declared.session.SessionRun.{SessionRun}
use Rattle.session_turns.specs.Drawn.{IsDrawn}

-- The order is that of the machine with the turns that the seed draws, and where the scripts are well-formed each command of a replica is answered over as many
-- places as the order had at its turn. Along a depot that they follow the replies of replicas are, but for those to `pull`, those of the depot after its first
-- changes, as many as the last `pull` told, cut to their filters; and each `pull` that tells a position took of the journal as it was at its turn. As many calls of disks may have failed as there are fault
-- places and replies of a failed disk together.
pub record AreCounted {D : Type 0} (disk_says : DiskSays D) (may_give : ℕ → Type 0) (seed : ℕ) (depot : SerialDepot D) (sessions : List (Option Session)) (scripts : List (Option ReplicaScript)) (since : ℕ) (start : List Deed) (order : List Place) (runs : List SessionRun) (lost : Bool) (may_fail : ℕ → Type 0) (before now : List (Option (List ℕ))) : Type 0 where
  pub turn_counts : ℕ → Option (List ℕ)
  pub drawn : IsDrawn may_give seed sessions scripts start order turn_counts runs
  pub served : All (λ script. AreWellFormed (replica_commands script)) scripts → AreReplicasServed disk_says may_give sessions scripts since start order turn_counts runs lost may_fail before now
  pub told : All (λ script. AreWellFormed (replica_commands script)) scripts → (past : Past) (c : Chronicle) → IsMaster disk_says past start [] depot c
      → AreReplicasTold past start sessions scripts may_give order turn_counts runs before now
