-- What the replicas among the parties of a run are answered (Server Administrator Guide, on filtered replicas; that they follow the journal of the run itself
-- is this project's own choice).
use Rattle.std.specs.Prelude.{◌≡◌, ◌+◌, ◌⊎◌, nat_lt, ℕ, Bool, true, false, List, length, map, get_or, slice_get, Option, Some, None}
use Rattle.std.specs.List.{sum}
use Rattle.outside_api.specs.Count.{HasRisen}
use Rattle.outside_api.specs.Says.{DiskSays}
use Rattle.depot_model.specs.Deeds.{Deed}
use Rattle.depot_model.specs.declared.order.Place.{Place}
use Rattle.depot_model.specs.declared.request.Session.{Session}
use Rattle.depot_runs.specs.Run.{placed}
use Rattle.replica_turns.specs.Along.{IsToldOutput}
use Rattle.replica_turns.specs.Going.{IsReplicaOutput}
use Rattle.replica_turns.specs.Master.{Past}
use Rattle.session_loop.specs.declared.reading.ReplicaScript.{ReplicaScript}
use Rattle.session_loop.specs.Served.{StandWithoutFaults, fault_count}
use Rattle.session_loop.specs.declared.session.SessionRun.{SessionRun}

-- ---- failed disks

-- So many of each party's replies, none where it is no replica, are those of failed disks; and whether one of all is.
pub record AreLost (replicas : List (Option ReplicaScript)) (losses : List ℕ) (lost : Bool) : Type 0 where
  pub count : length losses ≡ length replicas
  pub none : (i : ℕ) → slice_get replicas i ≡ Some None → get_or losses i 0 ≡ 0
  pub one : lost ≡ nat_lt 0 (sum losses)

-- ---- outputs

-- Each replica's sink got what a replica answers to its first commands, as many as its run tells, that followed the journal of the run's depot: each over that
-- depot when it had run so many places of the order, no fewer than at the command before, and as many as at its turn, where the turns are told. The run is told
-- exactly where one of these replies is that of a failed disk. As many calls of disks may have failed as there are fault places and such replies together.
pub record AreReplicasServed {D : Type 0} (disk_says : DiskSays D) (may_give : ℕ → Type 0) (sessions : List (Option Session)) (replicas : List (Option ReplicaScript)) (since : ℕ) (start : List Deed) (order : List Place) (turn_counts : ℕ → Option (List ℕ)) (runs : List SessionRun) (lost : Bool) (may_fail : ℕ → Type 0) (before now : List (Option (List ℕ))) : Type 0 where
  pub losses : List ℕ
  pub told : AreLost replicas losses lost
  pub failures : may_fail (fault_count order + sum losses)
  pub each : (i : ℕ) (script : ReplicaScript) (run : SessionRun) (given got : Option (List ℕ)) → slice_get replicas i ≡ Some (Some script) → slice_get runs i ≡ Some run
      → slice_get before i ≡ Some given → slice_get now i ≡ Some got
      → IsReplicaOutput disk_says since start (map (placed sessions) order) may_give (i + 1) script (turn_counts i) run.commands run.failed (get_or losses i 0) given got

-- Each replica's sink got the replies to its first commands, as many as its run tells, each when so many places of the order were taken, no fewer than at the
-- command before, and as many as at its turn, where the turns are told: each but those to `pull` is that of a replica of the depot after the first n changes, those before the run and then those among these places,
-- cut to its filter, where n is what its last `pull` told, and 0 before one; and each `pull` that tells a position took of the journal as it is after them.
abbrev pub AreReplicasTold : Past → List Deed → List (Option Session) → List (Option ReplicaScript) → (ℕ → Type 0) → List Place → (ℕ → Option (List ℕ)) → List SessionRun → List (Option (List ℕ)) → List (Option (List ℕ)) → Type 0
AreReplicasTold past start sessions replicas may_give order turn_counts runs before now =
    (i : ℕ) (script : ReplicaScript) (run : SessionRun) (given got : Option (List ℕ)) → slice_get replicas i ≡ Some (Some script) → slice_get runs i ≡ Some run
    → slice_get before i ≡ Some given → slice_get now i ≡ Some got
    → IsToldOutput past start (map (placed sessions) order) may_give (i + 1) script (turn_counts i) run.commands run.failed given got

-- a count of one of the two disks has risen
abbrev pub OneHasRisen : ℕ → ℕ → ℕ → ℕ → Type 0
OneHasRisen before now contents_before contents_now = HasRisen before now ⊎ HasRisen contents_before contents_now

-- a replica was answered that a disk failed only where one was already, or a count rose
abbrev pub HasLost : Bool → Bool → ℕ → ℕ → ℕ → ℕ → Type 0
HasLost old new before now contents_before contents_now = new ≡ true → (old ≡ true) ⊎ OneHasRisen before now contents_before contents_now

-- Where no replica is answered that a disk failed none was before, and where no fault place came either the two counts stand.
pub record StandUntold (old new : Bool) (before now contents_before contents_now : ℕ) (old_order new_order : List Place) : Type 0 where
  pub before_too : new ≡ false → old ≡ false
  pub stand : new ≡ false → StandWithoutFaults before now contents_before contents_now old_order new_order
