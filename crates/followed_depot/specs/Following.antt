-- A depot in files that has taken commands, and that replicas may follow.
use Rattle.std.specs.Prelude.{ℕ, List}
use Rattle.outside_api.specs.Says.{DiskSays}
use Rattle.depot_rows.specs.depot_model.Deeds.{Deed}
use Rattle.depot_rows.specs.depot_model.Places.{Placed}
use Rattle.replica_turns.specs.Master.{CanBeFollowed, Past}
use Rattle.replica_turns.specs.depot_commit.Growing.{Chronicle}
use Rattle.replica_turns.specs.serial_depot.Running.{HasRun}
use Rattle.replica_turns.specs.serial_depot.declared.depot.SerialDepot.{SerialDepot}
use Rattle.followed_depot.specs.Masters.{Masters}

-- The depot took the commands of these places, and where it began as one that replicas follow it is one after them.
pub record HasRunFollowed {D : Type 0} (disk_says : DiskSays D) (masters : Masters) (depot : SerialDepot D) (since : ℕ) (start : List Deed) (places : List Placed) : Type 0 where
  pub ran : HasRun disk_says depot since start places
  pub followed : (past : Past) (c : Chronicle) → masters past start c → CanBeFollowed disk_says past start places depot
