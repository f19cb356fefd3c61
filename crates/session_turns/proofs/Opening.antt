-- A run before its first turn.
use Rattle.std.proofs.Common.{◌≡◌, ℕ, ◌+◌, ◌≤◌, ◌<◌, ◌^◌, List, [], Option, length, map, refl, sym, ap, subst, ◌∙◌, arith, Vec, Global}
use Rattle.std.specs.Prelude.{All}
use Rattle.std.specs.List.{sum}
use Rattle.archive_file.specs.Archive.{disk_of as archive_disk_of}
use Rattle.outside_api.specs.Says.{DiskSays, SinkSays}
use Rattle.depot_rows.specs.Standing.{Stand}
use Rattle.depot_rows.specs.table_changes.Changed.{rows_of}
use Rattle.depot_rows.specs.table_store.declared.tables.Tables.{Tables}
use Rattle.depot_rows.specs.depot_model.Deeds.{Deed}
use Rattle.depot_rows.specs.depot_model.declared.order.Place.{Place}
use Rattle.depot_rows.specs.depot_model.declared.request.Session.{Session}
use Rattle.depot_runs.specs.Run.{placed}
use Rattle.disk_journal.specs.Stands.{disk_of}
use Rattle.lock_machine.specs.Runs.{beginning}
use Rattle.run_parties.proofs.Making.{asked_count}
use Rattle.run_parties.specs.Served.{AreApart}
use Rattle.run_parties.specs.replica_turns.Master.{IsMaster, Past}
use Rattle.run_parties.specs.depot_commit.Growing.{Chronicle}
use Rattle.run_parties.specs.serial_depot.Running.{HasRun}
use Rattle.run_parties.specs.serial_depot.declared.depot.SerialDepot.{SerialDepot}
use Rattle.session_loop.specs.Asking.{AreWellFormed, commands_of, replica_commands}
use Rattle.session_loop.specs.Served.{HaveRisenBy, fault_count}
use Rattle.session_loop.proofs.Faults.{risen_by_none}
use Rattle.session_loop.specs.declared.reading.ReplicaScript.{ReplicaScript}
use Rattle.session_loop.specs.declared.session.SessionRun.{SessionRun}
use Rattle.session_turns.proofs.Drawing.{all_replica_count, beginning_count}
use Rattle.session_turns.proofs.Fresh.{following_first, no_losses, none_lost}
use Rattle.session_turns.proofs.Starting.{all_proper, all_short, under_way}
use Rattle.session_turns.proofs.Telling.{along_begins}
use Rattle.session_turns.specs.Along.{AreAlong}
use Rattle.session_turns.specs.Beginning.{HasBegun}
use Rattle.session_turns.specs.Drawn.{Progress, replica_totals}
use Rattle.session_turns.specs.Going.{AreFollowing, AreGoing, all_left}
use Rattle.session_turns.specs.Running.{IsUnderWay, Scene, fresh_runs}
use Rattle.session_turns.specs.declared.beginning.Beginning.{Beginning}
use Rattle.session_turns.specs.declared.turns.Turns.{Turns}

module _ {D K : Type 0} (disk_says : DiskSays D) (sink_says : SinkSays K) (may_give : ℕ → Type 0) (sessions : List (Option Session)) (scripts : List (Option ReplicaScript))
    (depot : SerialDepot D) (sinks : Vec K Global) (order : Vec Place Global) (none : order.items ≡ []) (tables : Tables) (same : tables ≡ depot.tables) (new : Beginning) (b : HasBegun may_give sessions scripts tables new) where
  abbrev pub turns_at_first : Turns D K
  turns_at_first = record { core = new.core; replicas = new.replicas; totals = new.totals; runs = new.runs; sinks = sinks; depot = depot; order = order }

  abbrev pub progress_at_first : Progress
  progress_at_first = record { machine = beginning b.requests; others = replica_totals scripts; turn_counts = λ i. [] }

  -- how many turns there are at most
  pub few_turns : length scripts ≡ length sessions → length sessions < 2 ^ 32 → All (λ (session : Option Session). length (commands_of session) ≤ 67108864) sessions
      → All (λ (script : Option ReplicaScript). length (replica_commands script) ≤ 67108864) scripts → all_left progress_at_first < 2 ^ 64
  few_turns as_many few_parties few few_replicas =
      let most = beginning_count b.requests (all_short may_give sessions b.requests b.asked few) in
      let most_others = all_replica_count scripts few_replicas in
      let many = asked_count may_give 1 sessions b.requests b.asked in
      omega (arith, most, most_others, many, as_many, few_parties)

  module _ (since : ℕ) (start : List Deed) where
    abbrev pub scene_of : Scene
    scene_of = record { sessions = sessions; scripts = scripts; requests = b.requests; since = since; start = start; before = map sink_says.given sinks.items; faults = disk_says.faults (disk_of depot.journal); content_faults = disk_says.faults (archive_disk_of depot.archive) }

    pub begins : All (λ (session : Option Session). AreWellFormed (commands_of session)) sessions → length scripts ≡ length sessions → AreApart sessions scripts → HasRun disk_says depot since start []
        → AreGoing disk_says sink_says may_give scene_of progress_at_first turns_at_first
    begins formed as_many apart ran =
        let before = map sink_says.given sinks.items in
        let places = map (placed sessions) order.items in
        let U : List SessionRun → List Place → Type 0 = λ rs o. IsUnderWay may_give scene_of (beginning b.requests) rs before o in
        let R : List Place → Type 0 = λ o. HasRun disk_says depot since start (map (placed sessions) o) in
        let F : List SessionRun → Type 0 = λ rs. AreFollowing disk_says since start places may_give scripts new.replicas (no_losses scripts) (λ i. []) rs before before in
        record {
          running = record {
            formed = formed;
            under_way =
                subst (λ (rs : List SessionRun). U rs order.items) (sym b.runs) (subst (U (fresh_runs new.totals.items)) (sym none) (under_way may_give scene_of new.totals.items b.asked b.totals_count as_many apart));
            totals = b.totals;
            shows = b.shows start (subst (λ (ts : Tables). Stand (rows_of ts) start) (sym same) ran.over.stand) (all_proper may_give sessions b.requests b.asked formed);
            rows = b.rows ∙ ap rows_of same;
            end = b.end ∙ ap (λ (ts : Tables). ts.archive_end) same;
            ran = subst R (sym none) ran;
          };
          others = sym b.others;
          losses = no_losses scripts;
          following = subst F (sym b.runs) (following_first disk_says since start places may_give scripts new.replicas new.totals.items before b.fresh b.others b.lost);
          failures =
              let no_places : fault_count order.items ≡ 0 = ap fault_count none in
              let no_replies = none_lost scripts in
              let all : 0 ≡ fault_count order.items + sum (no_losses scripts) = omega (arith, no_places, no_replies) in
              let f = disk_says.faults (disk_of depot.journal) in
              let c = disk_says.faults (archive_disk_of depot.archive) in
              subst (λ (n : ℕ). HaveRisenBy n f f c c) all (risen_by_none f f c c (omega arith) (omega arith));
        }

    pub along_first : (past : Past) (c : Chronicle) → IsMaster disk_says past start [] depot c → AreAlong disk_says sink_says may_give past scene_of (λ i. []) turns_at_first
    along_first past c master =
        let M : List Place → Type 0 = λ o. IsMaster disk_says past start (map (placed sessions) o) depot c in
        along_begins disk_says sink_says may_give past scene_of turns_at_first c b.fresh b.runs refl (subst M (sym none) master)
