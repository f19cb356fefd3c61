-- A run from its beginning to its end.
use Rattle.std.proofs.Common.{◌≡◌, ℕ, ◌≤◌, ◌<◌, ◌^◌, List, [], Option, Some, length, map, refl, sym, ap, subst, ◌∙◌, Vec, Global}
use Rattle.std.specs.Prelude.{All}
use Rattle.outside_api.specs.Says.{DiskSays, SinkSays}
use Rattle.archive_file.specs.Archive.{disk_of as archive_disk_of}
use Rattle.depot_rows.specs.depot_model.Deeds.{Deed}
use Rattle.depot_rows.specs.depot_model.declared.order.Place.{Place}
use Rattle.depot_rows.specs.depot_model.declared.request.Session.{Session}
use Rattle.depot_rows.specs.table_store.declared.tables.Tables.{Tables}
use Rattle.depot_runs.specs.Run.{placed}
use Rattle.disk_journal.specs.Stands.{disk_of}
use Rattle.run_parties.specs.Served.{AreApart, AreEnds, AreServed}
use Rattle.run_parties.specs.replica_turns.Master.{CanBeFollowed, IsMaster, Past}
use Rattle.run_parties.specs.depot_commit.Growing.{Chronicle}
use Rattle.run_parties.specs.serial_depot.Running.{HasRun}
use Rattle.run_parties.specs.serial_depot.declared.depot.SerialDepot.{SerialDepot}
use Rattle.session_loop.specs.Asking.{AreWellFormed, commands_of, replica_commands}
use Rattle.session_loop.specs.Served.{HaveRisenBy}
use Rattle.session_loop.specs.declared.reading.ReplicaScript.{ReplicaScript}
use Rattle.session_loop.specs.declared.session.SessionRun.{SessionRun}
use Rattle.session_turns.proofs.Answered.{replicas_served, replicas_told}
use Rattle.session_turns.proofs.Ending.{ends_are, within_none}
use Rattle.session_turns.proofs.Opening.{along_first, begins, few_turns, progress_at_first, scene_of, turns_at_first}
use Rattle.session_turns.proofs.Rounds.{all_stay}
use Rattle.session_turns.specs.Answering.{AnswersNone, AreDone, IsDoneAt, IsSameAt}
use Rattle.session_turns.specs.Beginning.{HasBegun}
use Rattle.session_turns.specs.Counted.{AreCounted}
use Rattle.session_turns.specs.Drawn.{IsDrawn, Progress}
use Rattle.session_turns.specs.Going.{AreGoing, TakesTurns, all_left}
use Rattle.session_turns.specs.Running.{AreTotals, AreWithin, Scene}
use Rattle.session_turns.specs.Taking.{StayWithin}
use Rattle.session_turns.specs.declared.beginning.Beginning.{Beginning}
use Rattle.session_turns.specs.declared.turns.Turns.{Turns}

module _ {D K : Type 0} (disk_says : DiskSays D) (sink_says : SinkSays K) (may_give : ℕ → Type 0) (sessions : List (Option Session)) (scripts : List (Option ReplicaScript))
    (depot : SerialDepot D) (sinks : Vec K Global) (order : Vec Place Global) (none : order.items ≡ []) (tables : Tables) (same : tables ≡ depot.tables) (new : Beginning) (b : HasBegun may_give sessions scripts tables new) (last : Turns D K) where
  abbrev first : Turns D K
  first = turns_at_first disk_says sink_says may_give sessions scripts depot sinks order none tables same new b

  -- ---- the ends, whatever the depot

  pub whole_ends : StayWithin sink_says first last → (totals : List ℕ) → totals ≡ last.totals.items → (runs : List SessionRun) (after : List K)
      → ((before : List K) → AreWithin sink_says totals last.runs.items before last.sinks.items → AreWithin sink_says totals runs before after) → AreDone runs totals → AreEnds sink_says sessions scripts runs sinks.items after
  whole_ends within totals are runs after rest done =
      let totals_are : new.totals.items ≡ totals = ap (λ (v : Vec ℕ Global). v.items) (sym within.0) ∙ sym are in
      let F : List SessionRun → Type 0 = λ rs. AreWithin sink_says new.totals.items rs sinks.items sinks.items in
      let W : List ℕ → Type 0 = λ ts. AreWithin sink_says ts last.runs.items sinks.items last.sinks.items in
      let taken = within.1 sinks.items (subst F (sym b.runs) (within_none sink_says new.totals.items sinks.items)) in
      ends_are sink_says sessions scripts totals runs sinks.items after (ap (length {A = ℕ}) (sym totals_are) ∙ b.totals_count) (subst (AreTotals sessions scripts) totals_are b.totals) (rest sinks.items (subst W totals_are taken)) done

  -- ---- from a depot on

  module _ (as_many : length scripts ≡ length sessions) (apart : AreApart sessions scripts) (few_parties : length sessions < 2 ^ 32) (few : All (λ (session : Option Session). length (commands_of session) ≤ 67108864) sessions)
      (few_replicas : All (λ (script : Option ReplicaScript). length (replica_commands script) ≤ 67108864) scripts) (seed : ℕ)
      (takes : (scene : Scene) (p : Progress) → AreGoing disk_says sink_says may_give scene p first → length scene.sessions < 2 ^ 32 → all_left p < 2 ^ 64 → TakesTurns disk_says sink_says may_give scene seed p first last)
      (totals : List ℕ) (are : totals ≡ last.totals.items) (runs : List SessionRun) (after : List K) (rest : AnswersNone may_give sink_says last.runs.items runs last.sinks.items after)
      (still : (i : ℕ) → IsDoneAt last.runs.items totals i → IsSameAt i last.runs.items runs last.sinks.items after) (since : ℕ) (start : List Deed)
      (formed : All (λ (session : Option Session). AreWellFormed (commands_of session)) sessions) (ran : HasRun disk_says depot since start []) where
    abbrev scene : Scene
    scene = scene_of disk_says sink_says may_give sessions scripts depot sinks order none tables same new b since start

    abbrev progress : Progress
    progress = progress_at_first disk_says sink_says may_give sessions scripts depot sinks order none tables same new b

    taken : TakesTurns disk_says sink_says may_give scene seed progress first last
    taken =
        takes scene progress (begins disk_says sink_says may_give sessions scripts depot sinks order none tables same new b since start formed as_many apart ran) few_parties
        (few_turns disk_says sink_says may_give sessions scripts depot sinks order none tables same new b as_many few_parties few few_replicas)

    settled : (i : ℕ) → IsDoneAt last.runs.items last.totals.items i → IsSameAt i last.runs.items runs last.sinks.items after
    settled = subst (λ (ts : List ℕ). (i : ℕ) → IsDoneAt last.runs.items ts i → IsSameAt i last.runs.items runs last.sinks.items after) are still

    pub whole_served : AreServed may_give sessions scripts start runs (map sink_says.given sinks.items) (map sink_says.given after) last.order.items
    whole_served = rest.served sessions scripts start (map sink_says.given sinks.items) last.order.items taken.going.running.under_way.served

    pub whole_master : (past : Past) (c : Chronicle) → IsMaster disk_says past start [] depot c → CanBeFollowed disk_says past start (map (placed sessions) last.order.items) last.depot
    whole_master past c master =
        let along = taken.along past (along_first disk_says sink_says may_give sessions scripts depot sinks order none tables same new b since start past c master) in
        (along.all, along.master)

    pub whole_ran : HasRun disk_says last.depot since start (map (placed sessions) last.order.items)
    whole_ran = taken.going.running.ran

    -- how many places there were at the turns
    abbrev counts : ℕ → Option (List ℕ)
    counts = λ i. Some (taken.end.turn_counts i)

    whole_drawn : IsDrawn may_give seed sessions scripts start last.order.items counts runs
    whole_drawn = record {
      requests = b.requests;
      asked = b.asked;
      turns = taken.turns;
      last = taken.last;
      end = taken.end;
      drawn = taken.drawn;
      done = taken.done;
      told = taken.going.running.shows.run.told;
      order_is = taken.going.running.under_way.order_is;
      stops = all_stay last.runs.items runs taken.turns rest.stay taken.stops;
      counts = λ i. refl;
    }

    pub whole_counted : AreCounted disk_says may_give seed depot sessions scripts since start last.order.items runs last.replicas.lost
        (λ failures. HaveRisenBy failures (disk_says.faults (disk_of depot.journal)) (disk_says.faults (disk_of last.depot.journal)) (disk_says.faults (archive_disk_of depot.archive)) (disk_says.faults (archive_disk_of last.depot.archive)))
        (map sink_says.given sinks.items) (map sink_says.given after)
    whole_counted = record {
      turn_counts = counts;
      drawn = whole_drawn;
      served = λ well. replicas_served disk_says sink_says may_give scene taken.end last taken.going taken.done well runs after settled;
      told = λ well past c master.
          let along = taken.along past (along_first disk_says sink_says may_give sessions scripts depot sinks order none tables same new b since start past c master) in
          replicas_told disk_says sink_says may_give scene taken.end last taken.going taken.done well runs after settled past along;
    }
