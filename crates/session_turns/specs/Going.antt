-- How far the replicas of a run are, between two turns. This project's own choice.
use Rattle.std.specs.Prelude.{◌≡◌, ◌||◌, ◌+◌, ℕ, Bool, true, false, List, [], length, map, get_or, slice_get, slice_set, All, Option, Some, None, Result}
use Rattle.std.specs.List.{sum}
use Rattle.outside_api.specs.Says.{DiskSays, SinkSays}
use Rattle.archive_file.specs.Archive as archives
use Rattle.depot_rows.specs.depot_model.Deeds.{Deed}
use Rattle.depot_rows.specs.depot_model.Places.{Placed}
use Rattle.depot_rows.specs.depot_model.Tables.{needs_of}
use Rattle.depot_runs.specs.Run.{placed}
use Rattle.disk_journal.specs.Stands.{disk_of}
use Rattle.lock_machine.specs.Machine.{Finish}
use Rattle.lock_machine.specs.Turns.{turns_left}
use Rattle.run_parties.specs.Giving.{HasGiven}
use Rattle.run_parties.specs.Replicas.{AreLost, HasLost, StandUntold}
use Rattle.run_parties.specs.replica_turns.Going.{IsTurned, is_lost, one_if, reply_text}
use Rattle.run_parties.specs.replica_turns.Master.{Past}
use Rattle.run_parties.specs.replica_turns.declared.party.Answered.{Answered}
use Rattle.run_parties.specs.replica_turns.declared.party.ReplicaParty.{ReplicaParty}
use Rattle.run_parties.specs.serial_depot.declared.depot.SerialDepot.{SerialDepot}
use Rattle.session_loop.specs.Asking.{AreWellFormed, replica_commands}
use Rattle.session_loop.specs.Served.{HaveRisenBy, fault_count}
use Rattle.session_loop.specs.declared.reading.ReplicaScript.{ReplicaScript}
use Rattle.session_loop.specs.declared.session.SessionRun.{SessionRun}
use Rattle.session_turns.specs.Along.{AreAlong}
use Rattle.session_turns.specs.Answering.{StayFailed}
use Rattle.session_turns.specs.Drawn.{AreDrawn, Progress, StopsFailed, Turn, advanced, going}
use Rattle.session_turns.specs.Running.{Scene}
use Rattle.session_turns.specs.Taking.{IsRunning}
use Rattle.session_turns.specs.declared.replicas.Replicas.{Replicas}
use Rattle.session_turns.specs.declared.turns.Turns.{Turns}

-- ---- between two turns

-- What is left of a replica: the commands that its run doesn't tell of, or none where its sink failed.
pub record IsLeft (script : ReplicaScript) (replicas : Replicas) (i : ℕ) (run : SessionRun) : Type 0 where
  pub p : ReplicaParty
  pub other : ℕ
  pub at_party : slice_get replicas.parties.items i ≡ Some (Some p)
  pub at_other : slice_get replicas.others.items i ≡ Some other
  pub stopped : run.failed ≡ true → other ≡ 0
  pub left : run.failed ≡ false → other ≡ length p.left.items
  pub total : run.failed ≡ false → run.commands + other ≡ length (replica_commands (Some script))

-- Each replica's sink has the replies to the commands that its run tells of, where its commands are well-formed, each over as many places as its counts say; and no
-- other party has commands left as one. So many of each party's replies are those of failed disks.
pub record AreFollowing {D : Type 0} (disk_says : DiskSays D) (since : ℕ) (start : List Deed) (places : List Placed) (may_give : ℕ → Type 0) (scripts : List (Option ReplicaScript)) (replicas : Replicas) (losses : List ℕ) (counts : ℕ → List ℕ) (runs : List SessionRun) (before now : List (Option (List ℕ))) : Type 0 where
  pub count : length replicas.others.items ≡ length scripts
  pub none : (i other : ℕ) → slice_get scripts i ≡ Some None → slice_get replicas.others.items i ≡ Some other → other ≡ 0
  pub left : (i : ℕ) (script : ReplicaScript) (run : SessionRun) → slice_get scripts i ≡ Some (Some script) → slice_get runs i ≡ Some run → IsLeft script replicas i run
  pub told : AreLost scripts losses replicas.lost
  pub gave : (i : ℕ) (script : ReplicaScript) (run : SessionRun) (p : ReplicaParty) (given got : Option (List ℕ)) → slice_get scripts i ≡ Some (Some script) → slice_get runs i ≡ Some run
      → slice_get replicas.parties.items i ≡ Some (Some p) → slice_get before i ≡ Some given → slice_get now i ≡ Some got → AreWellFormed script.session.commands
      → HasGiven disk_says since start places may_give (i + 1) script p run (counts i) (get_or losses i 0) given got

-- The sessions are running, and the replicas are following. Fault places and replies of failed disks are together at most as many as the counts of the two disks
-- rose.
pub record AreGoing {D K : Type 0} (disk_says : DiskSays D) (sink_says : SinkSays K) (may_give : ℕ → Type 0) (scene : Scene) (progress : Progress) (turns : Turns D K) : Type 0 where
  pub running : IsRunning disk_says sink_says may_give scene progress.machine turns
  pub others : progress.others ≡ turns.replicas.others.items
  pub losses : List ℕ
  pub following : AreFollowing disk_says scene.since scene.start (map (placed scene.sessions) turns.order.items) may_give scene.scripts turns.replicas losses progress.turn_counts turns.runs.items scene.before (map sink_says.given turns.sinks.items)
  pub failures : HaveRisenBy (fault_count turns.order.items + sum losses) scene.faults (disk_says.faults (disk_of turns.depot.journal)) scene.content_faults (disk_says.faults (archives.disk_of turns.depot.archive))

-- ---- a replica's turn

-- One replica answered a command, with this text by the number of the command. It tells that a disk failed only where the count of one rose.
pub record IsStepped {D : Type 0} (disk_says : DiskSays D) (before now : SerialDepot D) (at : ℕ) (p : ReplicaParty) (old new : Replicas) (text : ℕ → List ℕ) : Type 0 where
  pub next : ReplicaParty
  pub result : Result Answered (Unit {0})
  pub parties : new.parties.items ≡ slice_set old.parties.items at (Some next)
  pub turned : IsTurned disk_says before p next result
  pub left : length p.left.items ≡ length next.left.items + 1
  pub text_is : (number : ℕ) → text number ≡ reply_text result number
  pub lost_is : new.lost ≡ (old.lost || is_lost result)
  pub risen : HaveRisenBy (one_if (is_lost result)) (disk_says.faults (disk_of before.journal)) (disk_says.faults (disk_of now.journal)) (disk_says.faults (archives.disk_of before.archive)) (disk_says.faults (archives.disk_of now.archive))

-- ---- a turn

-- A party took its turn, at which the replicas went on along the depot that they follow.
pub record Advances {D K : Type 0} (disk_says : DiskSays D) (sink_says : SinkSays K) (may_give : ℕ → Type 0) (scene : Scene) (p : Progress) (i : ℕ) (old new : Turns D K) : Type 0 where
  pub how : Finish
  pub stops : Bool
  pub going : AreGoing disk_says sink_says may_give scene (advanced p (record { party = i; how = how; stops = stops })) new
  pub failed : StopsFailed new.runs.items (record { party = i; how = how; stops = stops })
  pub stay : StayFailed old.runs.items new.runs.items
  pub along : (past : Past) → AreAlong disk_says sink_says may_give past scene p.turn_counts old
      → AreAlong disk_says sink_says may_give past scene (advanced p (record { party = i; how = how; stops = stops })).turn_counts new

-- The parties took the turns that the numbers after a number draw, until none could go on.
pub record TakesTurns {D K : Type 0} (disk_says : DiskSays D) (sink_says : SinkSays K) (may_give : ℕ → Type 0) (scene : Scene) (x : ℕ) (p : Progress) (old new : Turns D K) : Type 0 where
  pub turns : List Turn
  pub last : ℕ
  pub end : Progress
  pub drawn : AreDrawn x p turns last end
  pub done : going end ≡ []
  pub going : AreGoing disk_says sink_says may_give scene end new
  pub stops : All (StopsFailed new.runs.items) turns
  pub along : (past : Past) → AreAlong disk_says sink_says may_give past scene p.turn_counts old → AreAlong disk_says sink_says may_give past scene end.turn_counts new

-- that a replica was answered so only where the count of one of the two disks rose
abbrev pub HaveLost : {D K : Type 0} → DiskSays D → Turns D K → Turns D K → Type 0
HaveLost disk_says old new = HasLost old.replicas.lost new.replicas.lost (disk_says.faults (disk_of old.depot.journal)) (disk_says.faults (disk_of new.depot.journal)) (disk_says.faults (archives.disk_of old.depot.archive)) (disk_says.faults (archives.disk_of new.depot.archive))

-- where it wasn't, and no fault place came, the counts of both disks stand
abbrev pub HaveTold : {D K : Type 0} → DiskSays D → Turns D K → Turns D K → Type 0
HaveTold disk_says old new = StandUntold old.replicas.lost new.replicas.lost (disk_says.faults (disk_of old.depot.journal)) (disk_says.faults (disk_of new.depot.journal)) (disk_says.faults (archives.disk_of old.depot.archive)) (disk_says.faults (archives.disk_of new.depot.archive)) old.order.items new.order.items

-- how many turns are left at most
abbrev pub all_left : Progress → ℕ
all_left p = turns_left needs_of p.machine + sum p.others
