-- What the parties of a run are answered, and how they end. That each has a sink of its own is this project's own choice.
use Rattle.std.specs.Prelude.{◌≡◌, ◌≤◌, ◌+◌, ℕ, true, false, List, [], ◌∷◌, length, slice_get, Option, Some, None}
use Rattle.outside_api.specs.Count.{HasRisen}
use Rattle.outside_api.specs.Says.{SinkSays}
use Rattle.depot_model.specs.Deeds.{Deed}
use Rattle.depot_model.specs.Order.{IsOrder}
use Rattle.depot_model.specs.declared.order.Place.{Place}
use Rattle.depot_model.specs.declared.request.Session.{Session}
use Rattle.session_loop.specs.Asking.{commands_of, replica_commands}
use Rattle.session_loop.specs.Served.{IsOutput}
use Rattle.session_loop.specs.declared.reading.ReplicaScript.{ReplicaScript}
use Rattle.session_loop.specs.declared.session.SessionRun.{SessionRun}

-- ---- kinds of parties

-- a party is a session or a replica, or its script has no head
abbrev pub AreApart : List (Option Session) → List (Option ReplicaScript) → Type 0
AreApart sessions replicas = (i : ℕ) (script : ReplicaScript) → slice_get replicas i ≡ Some (Some script) → slice_get sessions i ≡ Some None

-- how many commands a party has
abbrev pub total_of : Option Session → Option ReplicaScript → ℕ
total_of session None = length (commands_of session)
total_of session (Some script) = length (replica_commands (Some script))

-- How many commands of each party were taken that may have a place: those of a replica have none.
abbrev pub session_counts : List (Option ReplicaScript) → List SessionRun → List ℕ
session_counts (None ∷ replicas) (run ∷ runs) = run.commands ∷ session_counts replicas runs
session_counts (Some script ∷ replicas) (run ∷ runs) = 0 ∷ session_counts replicas runs
session_counts _ _ = []

-- ---- sessions

-- There is one order of the commands of all sessions, each up to its party's `commands` at most once, by which every session's sink got what one thread
-- answers when it takes the commands in the order, from the depot `start` on.
pub record AreServed (may_give : ℕ → Type 0) (sessions : List (Option Session)) (replicas : List (Option ReplicaScript)) (start : List Deed) (runs : List SessionRun) (before now : List (Option (List ℕ))) (order : List Place) : Type 0 where
  pub count : length runs ≡ length sessions
  pub places : IsOrder may_give (session_counts replicas runs) order
  pub each : (i : ℕ) (run : SessionRun) (given got : Option (List ℕ)) → slice_get replicas i ≡ Some None → slice_get runs i ≡ Some run → slice_get before i ≡ Some given
      → slice_get now i ≡ Some got → IsOutput sessions start order (i + 1) run.commands run.failed given got

-- ---- the ends of all

-- The end of a party that has so many commands: all were taken unless its sink failed.
pub record IsEnd {K : Type 0} (sink_says : SinkSays K) (total : ℕ) (run : SessionRun) (before now : K) : Type 0 where
  pub all : run.failed ≡ false → run.commands ≡ total
  pub within : run.commands ≤ total
  pub counts : sink_says.faults before ≤ sink_says.faults now
  pub cause : run.failed ≡ true → HasRisen (sink_says.faults before) (sink_says.faults now)

-- the end of each
pub record AreEnds {K : Type 0} (sink_says : SinkSays K) (sessions : List (Option Session)) (replicas : List (Option ReplicaScript)) (runs : List SessionRun) (before now : List K) : Type 0 where
  pub runs_count : length runs ≡ length sessions
  pub sinks_count : length now ≡ length before
  pub each : (i : ℕ) (session : Option Session) (script : Option ReplicaScript) (run : SessionRun) (old new : K) → slice_get sessions i ≡ Some session → slice_get replicas i ≡ Some script
      → slice_get runs i ≡ Some run → slice_get before i ≡ Some old → slice_get now i ≡ Some new → IsEnd sink_says (total_of session script) run old new
