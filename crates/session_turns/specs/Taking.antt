-- The machine, the depot in files and the sinks between two turns, and what a turn of the machine does. This project's own choice.
use Rattle.std.specs.Prelude.{◌≡◌, ◌∷◌, ◌++◌, [], ℕ, Bool, List, length, map, slice_get, All, Some, Result, Ok, Err, if◌then◌else◌}
use Rattle.outside_api.specs.Says.{DiskSays, SinkSays}
use Rattle.archive_file.specs.Archive as archives
use Rattle.depot_rows.specs.depot_model.Deeds.{Deed}
use Rattle.depot_rows.specs.depot_model.Places.{Placed}
use Rattle.depot_rows.specs.depot_model.declared.order.Answer.{Answer}
use Rattle.depot_rows.specs.depot_model.declared.order.Place.{Place}
use Rattle.depot_rows.specs.depot_model.declared.request.Request.{Request}
use Rattle.depot_rows.specs.table_changes.Changed.{rows_of}
use Rattle.depot_runs.specs.Run.{placed}
use Rattle.disk_journal.specs.Stands.{disk_of}
use Rattle.lock_core.specs.Core.{IsCommit, IsReady, Shows}
use Rattle.lock_core.specs.declared.machine.LockCore.{LockCore}
use Rattle.lock_core.specs.declared.turn.Finish as code
use Rattle.lock_core.specs.declared.turn.Finish.TheVariants as ends
use Rattle.lock_machine.specs.Machine.{Finish, State}
use Rattle.run_parties.specs.command_core.declared.outcome.Outcome.{Outcome}
use Rattle.run_parties.specs.replica_turns.Master.{IsMaster, Past}
use Rattle.run_parties.specs.depot_commit.Committing.{AreRowsAfter}
use Rattle.run_parties.specs.depot_commit.Growing.{Chronicle}
use Rattle.run_parties.specs.serial_depot.Running.{CanTake, HasRun}
use Rattle.run_parties.specs.serial_depot.declared.depot.SerialDepot.{SerialDepot}
use Rattle.session_loop.specs.Asking.{AreWellFormed, commands_of}
use Rattle.session_loop.specs.Served.{AreCaused, StandWithoutFaults}
use Rattle.session_loop.specs.Taking.{Answers, IsProper, with_place}
use Rattle.session_loop.specs.declared.reading.ReplicaScript.{ReplicaScript}
use Rattle.session_turns.specs.Along.{GrowsTo}
use Rattle.session_turns.specs.Answering.{IsSameAt, StayFailed}
use Rattle.session_turns.specs.Drawn.{StopsFailed, turned}
use Rattle.session_turns.specs.Running.{AreTotals, AreWithin, IsUnderWay, Scene}
use Rattle.session_turns.specs.declared.turns.Turns.{Turns}

-- ---- a commit

-- how the commit of an answer ends
abbrev pub finish_for : {E : Type 0} → Result Answer E → code.Finish
finish_for (Ok answer) = if answer.place.fault then ends.Fault else ends.Done
finish_for (Err error) = ends.NoMemory

-- a commit is at hand: with its outcome, or without memory for one
abbrev pub IsAtHand : {E : Type 0} → List Deed → State → LockCore → ℕ → Result Outcome E → Type 0
IsAtHand start s core i (Ok outcome) = (request : Request) × IsReady start s core i request outcome
IsAtHand start s core i (Err error) = (request : Request) × IsCommit start s core i request

-- The commit of a request is at hand, with an outcome that was found in tables with the rows of the depot.
pub record IsDue {D E : Type 0} (start : List Deed) (s : State) (core : LockCore) (depot : SerialDepot D) (i : ℕ) (request : Request) (outcome : Result Outcome E) : Type 0 where
  pub found : Outcome
  pub is : outcome ≡ Ok found
  pub ready : IsReady start s core i request found
  pub rows : rows_of core.tables ≡ rows_of depot.tables
  pub end : core.tables.archive_end ≡ depot.tables.archive_end
  pub proper : IsProper request

-- It got its place: the depot has run it, and stays one that replicas follow.
pub record IsPlaced {D : Type 0} (disk_says : DiskSays D) (since : ℕ) (start : List Deed) (places : List Placed) (request : Request) (outcome : Outcome) (old new : SerialDepot D) (answer : Answer) : Type 0 where
  pub ran : HasRun disk_says new since start (with_place places request answer)
  pub answers : Answers start places request answer
  pub rows : AreRowsAfter (rows_of old.tables) outcome.changes answer.place.fault (rows_of new.tables)
  pub grows : (past : Past) (c : Chronicle) → IsMaster disk_says past start places old c → GrowsTo disk_says past start (with_place places request answer) new c

-- There was an outcome, and its place is behind the order.
pub record IsBehind {E : Type 0} (outcome : Result Outcome E) (answer : Answer) (old_order new_order : List Place) : Type 0 where
  pub found : Outcome
  pub is : outcome ≡ Ok found
  pub order : new_order ≡ old_order ++ answer.place ∷ []

-- It got none: all that the depot has run is what it had run, and the order is the same.
pub record IsUnplaced {D : Type 0} (disk_says : DiskSays D) (old new : SerialDepot D) (old_order new_order : List Place) : Type 0 where
  pub ran : (since : ℕ) (start : List Deed) (places : List Placed) → HasRun disk_says old since start places → HasRun disk_says new since start places
  pub tables : new.tables ≡ old.tables
  pub master : (past : Past) (start : List Deed) (places : List Placed) (c : Chronicle) → IsMaster disk_says past start places old c → IsMaster disk_says past start places new c
  pub order : new_order ≡ old_order

-- There come at most as many fault places as the counts of the two disks rise, and where none comes these stand.
pub record FaultsAreCounted {D : Type 0} (disk_says : DiskSays D) (old new : SerialDepot D) (old_order new_order : List Place) : Type 0 where
  pub faults : AreCaused (disk_says.faults (disk_of old.journal)) (disk_says.faults (disk_of new.journal)) (disk_says.faults (archives.disk_of old.archive)) (disk_says.faults (archives.disk_of new.archive)) old_order new_order
  pub stand : StandWithoutFaults (disk_says.faults (disk_of old.journal)) (disk_says.faults (disk_of new.journal)) (disk_says.faults (archives.disk_of old.archive)) (disk_says.faults (archives.disk_of new.archive)) old_order new_order

-- ---- between two turns

-- its depot can take commands, and each party has a sink
abbrev pub CanGoOn : {D K : Type 0} → DiskSays D → Turns D K → Type 0
CanGoOn disk_says turns = CanTake disk_says turns.depot × (length turns.sinks.items ≡ length turns.runs.items)

-- The core is the machine that is under way, with the tables of the depot, which has run the places of the order.
pub record IsRunning {D K : Type 0} (disk_says : DiskSays D) (sink_says : SinkSays K) (may_give : ℕ → Type 0) (scene : Scene) (s : State) (turns : Turns D K) : Type 0 where
  pub formed : All (λ session. AreWellFormed (commands_of session)) scene.sessions
  pub under_way : IsUnderWay may_give scene s turns.runs.items (map sink_says.given turns.sinks.items) turns.order.items
  pub totals : AreTotals scene.sessions scene.scripts turns.totals.items
  pub shows : Shows scene.start turns.core s
  pub rows : rows_of turns.core.tables ≡ rows_of turns.depot.tables
  pub end : turns.core.tables.archive_end ≡ turns.depot.tables.archive_end
  pub ran : HasRun disk_says turns.depot scene.since scene.start (map (placed scene.sessions) turns.order.items)

-- ---- a turn, whatever the depot

-- no party takes more commands than it has, nor fails where its sink doesn't
abbrev pub StayWithin : {D K : Type 0} → SinkSays K → Turns D K → Turns D K → Type 0
StayWithin {K = K} sink_says old new = (new.totals ≡ old.totals)
    × ((before : List K) → AreWithin sink_says old.totals.items old.runs.items before old.sinks.items → AreWithin sink_says old.totals.items new.runs.items before new.sinks.items)

-- there come at most as many fault places as the counts of the two disks rise
abbrev pub HaveCauses : {D K : Type 0} → DiskSays D → Turns D K → Turns D K → Type 0
HaveCauses disk_says old new = AreCaused (disk_says.faults (disk_of old.depot.journal)) (disk_says.faults (disk_of new.depot.journal)) (disk_says.faults (archives.disk_of old.depot.archive)) (disk_says.faults (archives.disk_of new.depot.archive)) old.order.items new.order.items

-- where none comes the two counts stand
abbrev pub HaveStoodWithout : {D K : Type 0} → DiskSays D → Turns D K → Turns D K → Type 0
HaveStoodWithout disk_says old new = StandWithoutFaults (disk_says.faults (disk_of old.depot.journal)) (disk_says.faults (disk_of new.depot.journal)) (disk_says.faults (archives.disk_of old.depot.archive)) (disk_says.faults (archives.disk_of new.depot.archive)) old.order.items new.order.items

-- ---- a turn of the machine

-- A party took a turn of the machine, at which no replica got anything.
pub record TakesTurn {D K : Type 0} (disk_says : DiskSays D) (sink_says : SinkSays K) (may_give : ℕ → Type 0) (scene : Scene) (s : State) (i : ℕ) (old new : Turns D K) : Type 0 where
  pub how : Finish
  pub stops : Bool
  pub running : IsRunning disk_says sink_says may_give scene (turned s (record { party = i; how = how; stops = stops })) new
  pub failed : StopsFailed new.runs.items (record { party = i; how = how; stops = stops })
  pub stay : StayFailed old.runs.items new.runs.items
  pub others : (j : ℕ) (script : ReplicaScript) → slice_get scene.scripts j ≡ Some (Some script) → IsSameAt j old.runs.items new.runs.items old.sinks.items new.sinks.items
  pub grown : (more : List Place) × (new.order.items ≡ old.order.items ++ more)
  -- a depot that replicas follow stays one
  pub grows : (past : Past) (c : Chronicle) → IsMaster disk_says past scene.start (map (placed scene.sessions) old.order.items) old.depot c
      → GrowsTo disk_says past scene.start (map (placed scene.sessions) new.order.items) new.depot c
