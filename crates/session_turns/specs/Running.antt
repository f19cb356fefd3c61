-- How far the parties of a run are, between two turns. This project's own choice.
use Rattle.std.specs.Prelude.{◌≡◌, ◌≤◌, ℕ, true, List, [], ◌∷◌, length, map, drop, slice_get, Option, Some, None, if◌then◌else◌}
use Rattle.outside_api.specs.Count.{HasRisen}
use Rattle.outside_api.specs.Says.{SinkSays}
use Rattle.depot_rows.specs.depot_model.Deeds.{Deed}
use Rattle.depot_rows.specs.depot_model.declared.order.Place.{Place}
use Rattle.depot_rows.specs.depot_model.declared.request.Request.{Request}
use Rattle.depot_rows.specs.depot_model.declared.request.Session.{Session}
use Rattle.depot_runs.specs.Run.{placed}
use Rattle.lock_machine.specs.Machine.{Party, State, Work}
use Rattle.lock_machine.specs.declared.stage.Stage.{Stage}
use Rattle.lock_machine.specs.declared.stage.Stage.TheVariants.{Gathering, Judged, Committed}
use Rattle.run_parties.specs.Asking.{fresh}
use Rattle.run_parties.specs.Served.{AreApart, AreServed, total_of}
use Rattle.session_loop.specs.Requests.{AreRequestsOfAll}
use Rattle.session_loop.specs.declared.reading.ReplicaScript.{ReplicaScript}
use Rattle.session_loop.specs.declared.session.SessionRun.{SessionRun}

-- ---- what isn't answered yet

-- a command that has its place is answered
abbrev pub unanswered_at : List Request → Request → Stage → List Request
unanswered_at left request Gathering = request ∷ left
unanswered_at left request Judged = request ∷ left
unanswered_at left request Committed = left

abbrev pub unanswered_by : List Request → Option Work → List Request
unanswered_by left None = left
unanswered_by left (Some w) = unanswered_at left w.request w.stage

-- the commands of a party of the machine that have no answer yet
abbrev pub unanswered : Party → List Request
unanswered p = unanswered_by p.left p.work

-- those of a party after so many commands: none where its sink failed
abbrev pub left_after : List Request → SessionRun → List Request
left_after requests run = if run.failed then [] else drop run.commands requests

-- before any command was taken
abbrev pub fresh_runs : List ℕ → List SessionRun
fresh_runs totals = map (λ total. fresh) totals

-- ---- all parties

-- What stays the same in all turns of a run: what its parties ask, the depot from which the files began and the moment since when, what each sink had got, and the counts
-- of faults of the journal's disk and of that of the contents.
pub record Scene : Type 0 where
  pub sessions : List (Option Session)
  pub scripts : List (Option ReplicaScript)
  pub requests : List (List Request)
  pub since : ℕ
  pub start : List Deed
  pub before : List (Option (List ℕ))
  pub faults : ℕ
  pub content_faults : ℕ

-- The sessions' sinks have the replies of the commands that were taken, and the machine is at their order, with the rest of the requests.
pub record IsUnderWay (may_give : ℕ → Type 0) (scene : Scene) (s : State) (runs : List SessionRun) (now : List (Option (List ℕ))) (order : List Place) : Type 0 where
  pub served : AreServed may_give scene.sessions scene.scripts scene.start runs scene.before now order
  pub as_many : length scene.scripts ≡ length scene.sessions
  pub apart : AreApart scene.sessions scene.scripts
  pub asked : AreRequestsOfAll may_give 1 scene.sessions scene.requests
  pub count : length s.parties ≡ length scene.sessions
  pub left : (i : ℕ) (own : List Request) (run : SessionRun) (p : Party) → slice_get scene.requests i ≡ Some own → slice_get runs i ≡ Some run → slice_get s.parties i ≡ Some p
      → unanswered p ≡ left_after own run
  pub order_is : map (placed scene.sessions) order ≡ map (λ c. c.place) s.order

-- ---- the ends, whatever the depot

-- a party has as many commands as its session or its script
abbrev pub AreTotals : List (Option Session) → List (Option ReplicaScript) → List ℕ → Type 0
AreTotals sessions scripts totals =
    (i : ℕ) (session : Option Session) (script : Option ReplicaScript) → slice_get sessions i ≡ Some session → slice_get scripts i ≡ Some script → slice_get totals i ≡ Some (total_of session script)

-- one party took no more commands than it has, and failed only where its sink did
pub record IsWithin {K : Type 0} (sink_says : SinkSays K) (total : ℕ) (run : SessionRun) (before now : K) : Type 0 where
  pub within : run.commands ≤ total
  pub counts : sink_says.faults before ≤ sink_says.faults now
  pub cause : run.failed ≡ true → HasRisen (sink_says.faults before) (sink_says.faults now)

pub record AreWithin {K : Type 0} (sink_says : SinkSays K) (totals : List ℕ) (runs : List SessionRun) (before now : List K) : Type 0 where
  pub runs_count : length runs ≡ length totals
  pub sinks_count : length now ≡ length before
  pub each : (i total : ℕ) (run : SessionRun) (old new : K) → slice_get totals i ≡ Some total → slice_get runs i ≡ Some run → slice_get before i ≡ Some old → slice_get now i ≡ Some new
      → IsWithin sink_says total run old new
