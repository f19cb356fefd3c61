-- The parties of a run on their threads, and what they leave together. This project's own choice.
use Rattle.std.specs.Prelude.{◌≡◌, ◌≤◌, ◌+◌, ℕ, Bool, false, List, [], length, map, nat_lt, get_or, slice_get, Option, Some, None, Vec}
use Rattle.std.specs.List.{AllByRecursion, list_any, sum}
use Rattle.std.specs.Global.{Global}
use mathlib.Core.List.{IsPrefix}
use Rattle.archive_file.specs.Archive as archives
use Rattle.depot_model.specs.Deeds.{Deed}
use Rattle.depot_model.specs.declared.request.Request.{Request}
use Rattle.disk_journal.specs.Stands.{disk_of}
use Rattle.locked_tables.specs.Known.{PartyKnown}
use Rattle.locked_tables.specs.Taken.{of_party, place_of, placed_of}
use Rattle.locked_tables.specs.declared.taken.Taken.{Taken}
use Rattle.outside_api.specs.Disk.{Files}
use Rattle.outside_api.specs.Says.{DiskSays, SinkSays}
use Rattle.party_marks.specs.Known.{PassKnown}
use Rattle.party_marks.specs.Marks.{has_marks, marks_of}
use Rattle.run_parties.specs.Asking.{left_in}
use Rattle.run_parties.specs.Served.{IsEnd}
use Rattle.run_parties.specs.replica_turns.declared.party.ReplicaParty.{ReplicaParty}
use Rattle.run_parties.specs.serial_depot.Running.{CanTake, HasRun}
use Rattle.session_loop.specs.Served.{HaveRisenBy, StandWithoutFaults, fault_count}
use Rattle.session_loop.specs.Taking.{IsProper}
use Rattle.session_loop.specs.declared.session.SessionRun.{SessionRun}
use Rattle.shared_depot.specs.Common.{HasAllStored, IsFollowed, Masters, OpenedKnown}
use Rattle.shared_depot.specs.Replicas.{mark_count}
use Rattle.party_threads.specs.Entries.{AreNumbered, HasTaken}
use Rattle.party_threads.specs.Replicas.{IsReplicaServed}
use Rattle.party_threads.specs.declared.party.ThreadParty.{ThreadParty}
use Rattle.party_threads.specs.declared.run.ThreadsRun.{ThreadsRun}

-- ---- one party

-- its commands were taken, and so it ended
pub record IsServedAlone {K : Type 0} (may_give : ℕ → Type 0) (sink_says : SinkSays K) (begins : ℕ → List Deed → Type 0) (party : ℕ) (requests : List Request) (run : SessionRun) (old new : K) (entries : List Taken) : Type 0 where
  pub taken : HasTaken may_give begins party requests run (sink_says.given old) (sink_says.given new) entries
  pub end : IsEnd sink_says (length requests) run old new

-- requests are those of one party, in order
pub record IsAsked (begins : ℕ → List Deed → Type 0) (party : ℕ) (requests : List Request) : Type 0 where
  pub few : length requests ≤ 67108864
  pub numbered : AreNumbered party requests
  pub proper : (since : ℕ) (start : List Deed) → begins since start → AllByRecursion IsProper requests

-- so are those of each, where parties are numbered from 1
abbrev pub AreAsked : (ℕ → List Deed → Type 0) → List (List Request) → Type 0
AreAsked begins requests = (i : ℕ) (own : List Request) → slice_get requests i ≡ Some own → IsAsked begins (i + 1) own

module _ {K N : Type 0} where
  -- it knows no place and has no mark, and has its own requests or a replica's
  pub record IsReady (begins : ℕ → List Deed → Type 0) (p : ThreadParty K N) : Type 0 where
    pub none : p.pass.list ≡ []
    pub unmarked : p.marks.list ≡ []
    pub asked : IsAsked begins p.pass.party p.requests.items
    pub few : length (left_in p.replica) ≤ 67108864

  -- whether it has marks, and how many
  abbrev pub is_marked : ThreadParty K N → Bool
  is_marked p = has_marks p.marks.party p.marks.list

  abbrev pub loss_count : ThreadParty K N → ℕ
  loss_count p = mark_count p.marks

-- what it knows begins an order, in which it has no more entries of its own
pub record IsHeard (order : List Taken) (known : PartyKnown) : Type 0 where
  pub begins : IsPrefix known.list order
  pub own : of_party known.party order ≡ of_party known.party known.list

module _ {D K : Type 0} (disk_says : DiskSays D) (end : ℕ) (images : Files → Type 0) (may_give : ℕ → Type 0) (sink_says : SinkSays K) (begins : ℕ → List Deed → Type 0) (masters : Masters) where
  -- its session's commands were taken, or its replica's answered, so many of them with a failed disk
  abbrev pub IsPartyServed : ℕ → List Request → Option ReplicaParty → SessionRun → ℕ → K → K → List Taken → Type 0
  IsPartyServed party requests None run lost old new entries = IsServedAlone may_give sink_says begins party requests run old new entries × (lost ≡ 0)
  IsPartyServed party requests (Some p) run lost old new entries = IsReplicaServed disk_says end images begins masters sink_says may_give party p run lost old new entries

  -- it ran on its thread
  pub record HasRunParty {N : Type 0} (old new : ThreadParty K N) : Type 0 where
    pub same : new.pass.party ≡ old.pass.party
    pub same_marks : new.marks.party ≡ old.marks.party
    pub served : IsPartyServed old.pass.party old.requests.items old.replica new.run (loss_count new) old.sink new.sink new.pass.list

  -- ---- all parties

  -- each ran on its thread
  abbrev pub HaveRun : {N : Type 0} → List (ThreadParty K N) → List (ThreadParty K N) → Type 0
  HaveRun {N} olds news = (i : ℕ) (old new : ThreadParty K N) → slice_get olds i ≡ Some old → slice_get news i ≡ Some new → HasRunParty old new

  -- each party was served, as the entries of one order tell, with so many answers of each that tell of a failed disk
  abbrev pub AreAllServed : List (List Request) → List (Option ReplicaParty) → List SessionRun → List ℕ → List K → List K → List Taken → Type 0
  AreAllServed requests replicas runs losses olds news order =
      (i : ℕ) (own : List Request) (replica : Option ReplicaParty) (run : SessionRun) (old new : K) → slice_get requests i ≡ Some own → slice_get replicas i ≡ Some replica → slice_get runs i ≡ Some run
      → slice_get olds i ≡ Some old → slice_get news i ≡ Some new → IsPartyServed (i + 1) own replica run (get_or losses i 0) old new order

module _ {K N : Type 0} where
  -- parties with these requests, replicas, passes and sinks
  pub record AreFreshParties (requests : List (Vec Request Global)) (replicas : List (Option ReplicaParty)) (passes : List PartyKnown) (marks : List PassKnown) (sinks : List K) (parties : List (ThreadParty K N)) : Type 0 where
    pub asks : map (λ (p : ThreadParty K N). p.requests) parties ≡ requests
    pub follows : map (λ (p : ThreadParty K N). p.replica) parties ≡ replicas
    pub knows : map (λ (p : ThreadParty K N). p.pass) parties ≡ passes
    pub marks_are : map (λ (p : ThreadParty K N). p.marks) parties ≡ marks
    pub gives : map (λ (p : ThreadParty K N). p.sink) parties ≡ sinks

  -- what they leave, and an order and marks that are heard of each
  pub record AreCollected (known : OpenedKnown) (parties : List (ThreadParty K N)) (runs : List SessionRun) (sinks : List K) (lost : Bool) : Type 0 where
    pub heard : AllByRecursion (λ (p : ThreadParty K N). IsHeard known.order p.pass) parties
    pub runs_are : runs ≡ map (λ (p : ThreadParty K N). p.run) parties
    pub sinks_are : sinks ≡ map (λ (p : ThreadParty K N). p.sink) parties
    pub told : lost ≡ list_any (λ (p : ThreadParty K N). is_marked p) parties
    pub marked : AllByRecursion (λ (p : ThreadParty K N). marks_of p.marks.party known.marks ≡ marks_of p.marks.party p.marks.list) parties

-- an entry is of one of the first n parties
abbrev pub IsAmong : ℕ → Taken → Type 0
IsAmong n entry = (1 ≤ entry.request.party) × (entry.request.party ≤ n)

module _ {D K : Type 0} (disk_says : DiskSays D) (end : ℕ) (images : Files → Type 0) (may_give : ℕ → Type 0) (sink_says : SinkSays K) where
  -- All parties ran on their threads: there is one order, in which each was served, which the depot has run, and after which replicas follow it. The run is
  -- told of a failed disk exactly where a replica was. The fault places and such answers together are at most as many as the counts of the two disks rose; where
  -- there is neither, both stand.
  pub record HaveRunAll (begins : ℕ → List Deed → Type 0) (masters : Masters) (faults_then contents_then : ℕ) (requests : List (List Request)) (replicas : List (Option ReplicaParty)) (sinks : List K) (ran : ThreadsRun D K) : Type 0 where
    pub order : List Taken
    pub places : ran.order.items ≡ map place_of order
    pub runs_count : length ran.runs.items ≡ length requests
    pub sinks_count : length ran.sinks.items ≡ length requests
    pub losses : List ℕ
    pub losses_count : length losses ≡ length requests
    pub told : ran.lost ≡ nat_lt 0 (sum losses)
    pub served : AreAllServed disk_says end images may_give sink_says begins masters requests replicas ran.runs.items losses sinks ran.sinks.items order
    pub among : AllByRecursion (IsAmong (length requests)) order
    pub can : CanTake disk_says ran.depot
    pub stored : HasAllStored disk_says end images begins order ran.depot.archive
    pub ran_by : (since : ℕ) (start : List Deed) → begins since start → HasRun disk_says ran.depot since start (map placed_of order)
    pub followed : IsFollowed disk_says begins masters order ran.depot
    pub failures : HaveRisenBy (fault_count ran.order.items + sum losses) faults_then (disk_says.faults (disk_of ran.depot.journal)) contents_then (disk_says.faults (archives.disk_of ran.depot.archive))
    pub stand : ran.lost ≡ false → StandWithoutFaults faults_then (disk_says.faults (disk_of ran.depot.journal)) contents_then (disk_says.faults (archives.disk_of ran.depot.archive)) [] ran.order.items
