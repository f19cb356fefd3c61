-- How far the replicas of a run are along the depot that they follow, between two turns. This project's own choice.
use Rattle.std.specs.Prelude.{◌≡◌, ◌+◌, ℕ, List, length, map, slice_get, Option, Some}
use Rattle.outside_api.specs.Says.{DiskSays, SinkSays}
use Rattle.depot_rows.specs.depot_model.Deeds.{Deed}
use Rattle.depot_rows.specs.depot_model.Places.{Placed}
use Rattle.depot_runs.specs.Run.{placed}
use Rattle.run_parties.specs.replica_turns.Along.{IsAlong}
use Rattle.run_parties.specs.replica_turns.Going.{HasGotTexts}
use Rattle.run_parties.specs.replica_turns.Master.{HasGrownTo, IsMaster, Past}
use Rattle.run_parties.specs.replica_turns.declared.party.ReplicaParty.{ReplicaParty}
use Rattle.run_parties.specs.depot_commit.Growing.{Chronicle}
use Rattle.run_parties.specs.serial_depot.declared.depot.SerialDepot.{SerialDepot}
use Rattle.session_loop.specs.Asking.{AreWellFormed}
use Rattle.session_loop.specs.declared.reading.ReplicaScript.{ReplicaScript}
use Rattle.session_loop.specs.declared.session.SessionRun.{SessionRun}
use Rattle.session_turns.specs.Running.{Scene}
use Rattle.session_turns.specs.declared.turns.Turns.{Turns}

-- the depot is one that replicas follow, after these places, and its journal grew
abbrev pub GrowsTo : {D : Type 0} → DiskSays D → Past → List Deed → List Placed → SerialDepot D → Chronicle → Type 0
GrowsTo disk_says past start places depot c = (now : Chronicle) × IsMaster disk_says past start places depot now × HasGrownTo c now

-- The sink has the replies of a replica to the commands that its run tells of, as it tells them along the depot that it follows, each when as many places were
-- taken as its count says.
pub record HasToldAlong (past : Past) (start : List Deed) (places : List Placed) (may_give : ℕ → Type 0) (party : ℕ) (script : ReplicaScript) (p : ReplicaParty) (run : SessionRun) (c : Chronicle) (counts : List ℕ) (before now : Option (List ℕ)) : Type 0 where
  pub texts : List (List ℕ)
  pub count : length texts ≡ run.commands
  pub along : IsAlong past start places may_give party script p c counts texts
  pub got : HasGotTexts run.failed texts before now

-- The depot is one that replicas follow, and each of them tells along it, where its commands are well-formed, when as many places were taken as its counts say.
pub record AreAlong {D K : Type 0} (disk_says : DiskSays D) (sink_says : SinkSays K) (may_give : ℕ → Type 0) (past : Past) (scene : Scene) (counts : ℕ → List ℕ) (turns : Turns D K) : Type 0 where
  pub all : Chronicle
  pub master : IsMaster disk_says past scene.start (map (placed scene.sessions) turns.order.items) turns.depot all
  pub told : (i : ℕ) (script : ReplicaScript) (run : SessionRun) (p : ReplicaParty) (had got : Option (List ℕ)) → slice_get scene.scripts i ≡ Some (Some script) → slice_get turns.runs.items i ≡ Some run
      → slice_get turns.replicas.parties.items i ≡ Some (Some p) → slice_get scene.before i ≡ Some had → slice_get (map sink_says.given turns.sinks.items) i ≡ Some got → AreWellFormed script.session.commands
      → HasToldAlong past scene.start (map (placed scene.sessions) turns.order.items) may_give (i + 1) script p run all (counts i) had got
