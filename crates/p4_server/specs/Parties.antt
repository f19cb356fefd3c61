-- The parties of a run before their first turns: what came by the doors of their names, and what was read of their scripts.
use Rattle.std.specs.Prelude.{◌≡◌, ◌≢◌, ◌≤◌, ℕ, List, length, slice_get, All, AllPairs, Option, Some}
use Rattle.outside_api.specs.Says.{SourceSays, SinkSays}
use Rattle.depot_rows.specs.depot_model.declared.request.Session.{Session}
use Rattle.session_loop.specs.Asking.{AreWellFormed, commands_of, replica_commands}
use Rattle.session_loop.specs.Reading.{IsAsked}
use Rattle.session_loop.specs.declared.reading.ReplicaScript.{ReplicaScript}
use Rattle.wire_text.specs.declared.script.ScriptEnd.{ScriptEnd}
use Rattle.p4_server.specs.declared.ended.PartyEnd.{PartyEnd}
use Rattle.p4_server.specs.declared.party.PartiesRun.{PartiesRun}
use Rattle.p4_server.specs.Ends.{ended_parties}
use Rattle.p4_server.specs.Headline.{IsApart}

-- ---- names

-- no two names are the same
abbrev pub AreDifferent : List (List ℕ) → Type 0
AreDifferent names = AllPairs (λ one other. one ≢ other) names

-- it is none of the names
abbrev pub IsOther : List (List ℕ) → List ℕ → Type 0
IsOther names other = All (λ name. other ≢ name) names

-- Every name but these has the input and the output that it had.
pub record OnlyTheseCome (inputs_before outputs_before inputs_now outputs_now : List ℕ → Option (List ℕ)) (names : List (List ℕ)) : Type 0 where
  pub inputs : (other : List ℕ) → IsOther names other → inputs_now other ≡ inputs_before other
  pub outputs : (other : List ℕ) → IsOther names other → outputs_now other ≡ outputs_before other

-- ---- doors

module _ {S K : Type 0} (source_says : SourceSays S) (sink_says : SinkSays K) where
  -- the source and the sink of a name, neither of which has failed
  pub record IsPair (input output : Option (List ℕ)) (source : S) (sink : K) : Type 0 where
    pub reads : source_says.left source ≡ input
    pub gives : sink_says.given sink ≡ output
    pub new_source : source_says.faults source ≡ 0
    pub new_sink : sink_says.faults sink ≡ 0

  -- each name has its source and its sink
  pub record HaveCome (inputs outputs : List ℕ → Option (List ℕ)) (names : List (List ℕ)) (sources : List S) (sinks : List K) : Type 0 where
    pub sources_count : length sources ≡ length names
    pub sinks_count : length sinks ≡ length names
    pub each : (i : ℕ) (name : List ℕ) (source : S) (sink : K) → slice_get names i ≡ Some name → slice_get sources i ≡ Some source → slice_get sinks i ≡ Some sink
        → IsPair (inputs name) (outputs name) source sink

-- ---- scripts

-- of a source the session or the replica and the end of its script were read
pub record IsRead {S : Type 0} (source_says : SourceSays S) (was is : S) (session : Option Session) (replica : Option ReplicaScript) (end : ScriptEnd) : Type 0 where
  pub asked : IsAsked (source_says.left was) (source_says.left is) (source_says.faults was) (source_says.faults is) session replica end
  pub apart : IsApart session replica

-- so it is of each source
pub record AreRead {S : Type 0} (source_says : SourceSays S) (before now : List S) (sessions : List (Option Session)) (replicas : List (Option ReplicaScript)) (ends : List ScriptEnd) : Type 0 where
  pub sources_count : length now ≡ length before
  pub sessions_count : length sessions ≡ length before
  pub replicas_count : length replicas ≡ length before
  pub ends_count : length ends ≡ length before
  pub each : (i : ℕ) (was is : S) (session : Option Session) (replica : Option ReplicaScript) (end : ScriptEnd) → slice_get before i ≡ Some was → slice_get now i ≡ Some is → slice_get sessions i ≡ Some session → slice_get replicas i ≡ Some replica
      → slice_get ends i ≡ Some end → IsRead source_says was is session replica end

-- what a session or a replica asks is well-formed, and not more than a script can ask
pub record AreFormed (sessions : List (Option Session)) (replicas : List (Option ReplicaScript)) : Type 0 where
  pub sessions_formed : All (λ session. AreWellFormed (commands_of session)) sessions
  pub replicas_formed : All (λ replica. AreWellFormed (replica_commands replica)) replicas

pub record AreFew (sessions : List (Option Session)) (replicas : List (Option ReplicaScript)) : Type 0 where
  pub sessions_few : All (λ session. length (commands_of session) ≤ 67108864) sessions
  pub replicas_few : All (λ replica. length (replica_commands replica) ≤ 67108864) replicas

-- ---- runs

-- the ends of parties that were run
abbrev pub parties_of : {S K : Type 0} → PartiesRun S K → List (PartyEnd K)
parties_of run = ended_parties 1 run.runs.items run.ends.items run.sinks.items

-- there are as many runs and ends of scripts as sinks, and at most 16
pub record CanBeTold {S K : Type 0} (run : PartiesRun S K) : Type 0 where
  pub runs : length run.runs.items ≡ length run.sinks.items
  pub ends : length run.ends.items ≡ length run.sinks.items
  pub few : length run.sinks.items ≤ 16
