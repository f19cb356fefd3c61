-- The headline: one order of the commands of all parties explains every party's output.
use Rattle.std.specs.Prelude.{◌≡◌, ◌≤◌, ℕ, ◌+◌, Bool, true, false, List, length, map, get_or, slice_get, Option, Some, None, IfSome}
use Rattle.std.specs.List.{sum}
use Rattle.outside_api.specs.Count.{HasRisen}
use Rattle.outside_api.specs.Says.{DiskSays, SourceSays, SinkSays}
use Rattle.archive_file.specs.Archive as archives
use Rattle.depot_rows.specs.depot_model.Deeds.{Deed}
use Rattle.depot_runs.specs.Run.{placed}
use Rattle.depot_rows.specs.depot_model.declared.order.Place.{Place}
use Rattle.depot_rows.specs.depot_model.declared.request.Session.{Session}
use Rattle.depot_rows.specs.depot_model.Order.{IsOrder}
use Rattle.disk_journal.specs.Stands.{disk_of}
use Rattle.party_threads.specs.replica_turns.Along.{IsToldOutput}
use Rattle.party_threads.specs.replica_turns.Going.{IsReplicaOutput}
use Rattle.party_threads.specs.replica_turns.Master.{CanBeFollowed, Past}
use Rattle.party_threads.specs.run_parties.Replicas.{AreLost}
use Rattle.party_threads.specs.run_parties.Served.{session_counts, total_of}
use Rattle.party_threads.specs.serial_depot.Running.{HasRun}
use Rattle.party_threads.specs.serial_depot.declared.depot.SerialDepot.{SerialDepot}
use Rattle.session_loop.specs.declared.reading.ReadSession.{ReadSession}
use Rattle.session_loop.specs.declared.reading.ReplicaScript.{ReplicaScript}
use Rattle.session_loop.specs.declared.session.SessionRun.{SessionRun}
use Rattle.session_loop.specs.Reading.{IsReadSession}
use Rattle.session_loop.specs.Served.{HaveRisenBy, IsOutput, fault_count}
use Rattle.p4_server.specs.declared.ended.PartyEnd.{PartyEnd}
use Rattle.p4_server.specs.Ends.{party_end, run_of}

-- How an order came about: what holds of the sessions and the replicas, the depot at the start, the order, how many places it had at the turns of each party, where
-- they are told, and how far each party came.
abbrev pub Ordering : Type 1
Ordering = List (Option Session) → List (Option ReplicaScript) → List Deed → List Place → (ℕ → Option (List ℕ)) → List SessionRun → Type 0

-- the counts of the two disks rose together by at least so many, from the one depot to the other
abbrev pub HaveFailed : {D : Type 0} → DiskSays D → SerialDepot D → SerialDepot D → ℕ → Type 0
HaveFailed disk_says old new failures =
    HaveRisenBy failures (disk_says.faults (disk_of old.journal)) (disk_says.faults (disk_of new.journal)) (disk_says.faults (archives.disk_of old.archive)) (disk_says.faults (archives.disk_of new.archive))

-- no script has the heads of both
abbrev pub IsApart : Option Session → Option ReplicaScript → Type 0
IsApart session replica = IfSome replica (λ script. session ≡ None)

-- The end of one party, by its number from 1, whatever the depot at the start. A session or a replica was read of its source; it was answered its
-- first `commands` commands, all of them unless its sink failed.
pub record IsPartyEnd {S K : Type 0} (source_says : SourceSays S) (sink_says : SinkSays K) (input : Option (List ℕ)) (number : ℕ) (source : S) (party : PartyEnd K) : Type 0 where
  pub read : ReadSession
  pub failed : Bool
  pub read_is : IsReadSession input (source_says.left source) 0 (source_says.faults source) read
  pub number_is : party.party ≡ number
  pub apart : IsApart read.session read.replica
  pub end : party.end ≡ party_end failed read.end
  pub within : party.commands ≤ total_of read.session read.replica
  pub all : failed ≡ false → party.commands ≡ total_of read.session read.replica
  pub cause : failed ≡ true → HasRisen 0 (sink_says.faults party.sink)

-- Each name has its party and its source, and each party ends as that of its name does.
pub record AreEnds {S K : Type 0} (source_says : SourceSays S) (sink_says : SinkSays K) (inputs : List ℕ → Option (List ℕ)) (names : List (List ℕ)) (parties : List (PartyEnd K)) (sources : List S) : Type 0 where
  pub parties_count : length parties ≡ length names
  pub sources_count : length sources ≡ length names
  pub each : (i : ℕ) (name : List ℕ) (source : S) (party : PartyEnd K) → slice_get names i ≡ Some name → slice_get sources i ≡ Some source → slice_get parties i ≡ Some party
      → IsPartyEnd source_says sink_says (inputs name) (i + 1) source party

module _ {D S K : Type 0} (disk_says : DiskSays D) (source_says : SourceSays S) (sink_says : SinkSays K) (may_give : ℕ → Type 0) (since : ℕ) (start : List Deed) where
  -- What the sink of a replica got: the replies to its first commands, in order, each over a depot in files that had run so many places of the order, no fewer
  -- than at the command before, and as many as at its turn, where the turns are told: each `pull` took what the journal of it answered, and each other reply is that of the rows which the replica had then. So many
  -- of the replies say that a disk failed.
  pub record IsReplicaPart (sessions : List (Option Session)) (order : List Place) (at_turns : Option (List ℕ)) (lost : ℕ) (number : ℕ) (script : ReplicaScript) (commands : ℕ) (failed : Bool) (before now : Option (List ℕ)) : Type 0 where
    pub output : IsReplicaOutput disk_says since start (map (placed sessions) order) may_give number script at_turns commands failed lost before now

  -- What a party's sink got. A session's has what one thread answers to its commands, in order, when it takes the commands of all sessions in the order, from
  -- the depot `start` on. So has that of a script without a head, which has no commands.
  abbrev pub AreReplies : List (Option Session) → List Place → Option (List ℕ) → ℕ → ℕ → Option ReplicaScript → ℕ → Bool → Option (List ℕ) → Option (List ℕ) → Type 0
  AreReplies sessions order at_turns lost number None commands failed before now = IsOutput sessions start order number commands failed before now
  AreReplies sessions order at_turns lost number (Some script) commands failed before now = IsReplicaPart sessions order at_turns lost number script commands failed before now

  -- One party: its session or its replica is the one that was read, and its sink got the replies.
  pub record IsPartyOf (sessions : List (Option Session)) (order : List Place) (at_turns : Option (List ℕ)) (lost : ℕ) (input output : Option (List ℕ)) (number : ℕ) (session : Option Session) (replica : Option ReplicaScript) (source : S) (party : PartyEnd K) : Type 0 where
    pub ends : IsPartyEnd source_says sink_says input number source party
    pub session_is : session ≡ ends.read.session
    pub replica_is : replica ≡ ends.read.replica
    pub replies : AreReplies sessions order at_turns lost number replica party.commands ends.failed output (sink_says.given party.sink)

  -- Each name has its party, and there is one order of the commands of all sessions, each up to its party's `commands` at most
  -- once, by which every session's output is that of one thread. The commands of replicas have no place in it. That a disk failed for one of them is told
  -- exactly where a reply of one of the replicas says so, of each so many. How many places there were at the turns of each party may be told.
  pub record IsHeadline (inputs outputs : List ℕ → Option (List ℕ)) (names : List (List ℕ)) (order : List Place) (lost : Bool) (parties : List (PartyEnd K)) (sources : List S) : Type 0 where
    pub sessions : List (Option Session)
    pub replicas : List (Option ReplicaScript)
    pub sessions_count : length sessions ≡ length names
    pub replicas_count : length replicas ≡ length names
    pub parties_count : length parties ≡ length names
    pub sources_count : length sources ≡ length names
    pub places : IsOrder may_give (session_counts replicas (map run_of parties)) order
    pub losses : List ℕ
    pub told : AreLost replicas losses lost
    pub turn_counts : ℕ → Option (List ℕ)
    pub each : (i : ℕ) (name : List ℕ) (session : Option Session) (replica : Option ReplicaScript) (source : S) (party : PartyEnd K) → slice_get names i ≡ Some name → slice_get sessions i ≡ Some session → slice_get replicas i ≡ Some replica
        → slice_get sources i ≡ Some source → slice_get parties i ≡ Some party → IsPartyOf sessions order (turn_counts i) (get_or losses i 0) (inputs name) (outputs name) (i + 1) session replica source party

  -- A replica's commands were answered one after another, each when so many places of the order were taken, no fewer than at the command before, and as many as at
  -- its turn, where the turns are told. Each reply
  -- other than to `pull` is that of a replica of the depot after the first n changes, those before the run and then those among these places, cut to its filter,
  -- where n is what its last `pull` told, and 0 before one; n never falls. Each `pull` that tells a position took at least one byte of the journal as it is
  -- after these places, passed to the next generation, or found all of its generation taken, where the changes before the run fit, one after another, and the
  -- journal has fewer than 2 ^ 63 bytes.
  abbrev pub AreRepliesTold : Past → (List ℕ → Option (List ℕ)) → List (List ℕ) → List (Option Session) → List (Option ReplicaScript) → List Place → (ℕ → Option (List ℕ)) → List (PartyEnd K) → Type 0
  AreRepliesTold past outputs names sessions replicas order turn_counts parties =
      (i : ℕ) (name : List ℕ) (script : ReplicaScript) (party : PartyEnd K) → slice_get names i ≡ Some name → slice_get replicas i ≡ Some (Some script) → slice_get parties i ≡ Some party
      → IsToldOutput past start (map (placed sessions) order) may_give (i + 1) script (turn_counts i) (run_of party).commands (run_of party).failed (outputs name) (sink_says.given party.sink)

  -- The headline, the depot has run its places, and the order came about so. Fault places and replies of replicas that say that a disk failed are together at most
  -- as many as the counts of the two disks rose. Where the run began over a depot with such changes before it, the replies of
  -- replicas are those for numbers of changes, and they can follow the depot on.
  pub record IsRunFrom (from depot : SerialDepot D) (IsOrdered : Ordering) (began : Past → Type 0) (inputs outputs : List ℕ → Option (List ℕ)) (names : List (List ℕ)) (order : List Place) (lost : Bool) (parties : List (PartyEnd K)) (sources : List S) : Type 0 where
    pub headline : IsHeadline inputs outputs names order lost parties sources
    pub ran : HasRun disk_says depot since start (map (placed headline.sessions) order)
    pub failures : HaveFailed disk_says from depot (fault_count order + sum headline.losses)
    pub ordered : IsOrdered headline.sessions headline.replicas start order headline.turn_counts (map run_of parties)
    pub told : (past : Past) → began past → AreRepliesTold past outputs names headline.sessions headline.replicas order headline.turn_counts parties
    pub followed : (past : Past) → began past → CanBeFollowed disk_says past start (map (placed headline.sessions) order) depot
