-- One more turn of one of the parties, which is a session's or a replica's.
use Rattle.std.proofs.Common.{◌≡◌, ℕ, zero, suc, ◌+◌, ◌<◌, Bool, true, false, cond, List, [], ◌∷◌, ◌++◌, drop, get_or, length, map, set, Option, Some, None, refl, sym, ap, subst, ◌∙◌, arith, inl, inr, Vec, Global}
use Rattle.std.specs.Prelude.{slice_get, option_map}
use Rattle.std.specs.List.{sum}
use Rattle.std.specs.Option.{IsSomeAnd}
use Rattle.std.proofs.lemmas.Bool.{eq-eqb, lt-ltb, ltb-true, ne_eqb}
use Rattle.std.proofs.lemmas.Option.{get_or_from_slice_get, slice_get-map, slice_get_cases, slice_get_within}
use Rattle.std.proofs.lemmas.List.{get_or_past, length-map, map-append}
use Rattle.outside_api.specs.Disk.{Files}
use Rattle.outside_api.specs.Says.{DiskSays, SinkSays}
use Rattle.depot_rows.specs.depot_model.Places.{Placed}
use Rattle.depot_rows.specs.depot_model.declared.order.Place.{Place}
use Rattle.depot_rows.specs.depot_model.declared.request.Request.{Request}
use Rattle.depot_rows.specs.depot_model.declared.request.Session.{Session}
use Rattle.depot_runs.specs.Run.{placed}
use Rattle.lock_core.specs.Drawing.{has_other}
use Rattle.lock_core.specs.declared.machine.LockCore.{LockCore}
use Rattle.lock_machine.specs.Machine.{Commit, Fault}
use Rattle.lock_machine.proofs.Places.{set_here, some_is}
use Rattle.run_parties.proofs.Slots.{also_at, at_set}
use Rattle.run_parties.specs.depot_commit.Growing.{Chronicle, HasGroups, KeepsStored}
use Rattle.run_parties.specs.replica_turns.Going.{is_lost, one_if}
use Rattle.run_parties.proofs.replica_turns.Along.{told_of}
use Rattle.run_parties.specs.serial_depot.Running.{CanTake, HasRun}
use Rattle.session_loop.proofs.Faults.{risen_by_more}
use Rattle.session_loop.specs.Asking.{replica_commands}
use Rattle.session_loop.specs.Requests.{AreRequestsOfAll}
use Rattle.session_loop.specs.Served.{fault_count}
use Rattle.session_loop.specs.declared.reading.ReplicaScript.{ReplicaScript}
use Rattle.session_loop.specs.declared.session.SessionRun.{SessionRun}
use Rattle.session_turns.proofs.Following.{IsReplicaTurn, all_lost, following_longer, following_stays, following_turned, loss_after}
use Rattle.session_turns.proofs.Telling.{along_replica, along_session}
use Rattle.session_turns.proofs.Within.{served_other, stay_more}
use Rattle.session_turns.specs.Along.{AreAlong}
use Rattle.session_turns.specs.Answering.{has_more_at}
use Rattle.session_turns.specs.Drawn.{Progress, Turn, advanced, counted, others_turned, turned}
use Rattle.session_turns.specs.Going.{Advances, AreFollowing, AreGoing, IsLeft}
use Rattle.session_turns.specs.Running.{Scene, left_after}
use Rattle.session_turns.specs.Taking.{HaveCauses, IsRunning, TakesTurn}
use Rattle.session_turns.specs.declared.replicas.Replicas.{Replicas}
use Rattle.session_turns.specs.declared.turns.Turns.{Turns}
use Rattle.depot_rows.specs.table_changes.Changed.{rows_of}
use Rattle.depot_rows.specs.table_store.declared.tables.Tables.{Tables}

-- a party without a session asks nothing
none_asked : (may_give : ℕ → Type 0) (party : ℕ) (sessions : List (Option Session)) (requests : List (List Request)) → AreRequestsOfAll may_give party sessions requests → (i : ℕ) (own : List Request)
    → slice_get sessions i ≡ Some None → slice_get requests i ≡ Some own → own ≡ []
none_asked may_give party [] requests all i own none at = absurd cc
none_asked may_give party (s ∷ sessions) [] all i own none at = absurd all
none_asked may_give party (None ∷ sessions) (r ∷ requests) all zero own none at = sym (some_is at) ∙ all.0
none_asked may_give party (Some session ∷ sessions) (r ∷ requests) all zero own none at = absurd cc
none_asked may_give party (s ∷ sessions) (r ∷ requests) all (suc i) own none at = none_asked may_give (suc party) sessions requests all.1 i own none at

nothing_left : (n : ℕ) → drop {A = Request} n [] ≡ []
nothing_left zero = refl
nothing_left (suc n) = refl

none_after : (own : List Request) (run : SessionRun) → own ≡ [] → left_after own run ≡ []
none_after own run none = ap (λ (o : List Request). left_after o run) none ∙ go run.failed
  where
    go : (b : Bool) → cond b [] (drop {A = Request} run.commands []) ≡ []
    go true = refl
    go false = nothing_left run.commands

-- a party is a replica with commands left
pub record IsHere {D K : Type 0} (scene : Scene) (old : Turns D K) (i : ℕ) : Type 0 where
  pub script : ReplicaScript
  pub at_script : slice_get scene.scripts i ≡ Some (Some script)
  pub run : SessionRun
  pub at_run : slice_get old.runs.items i ≡ Some run
  pub left : IsLeft script old.replicas i run
  pub some : 0 < left.other
  pub whole : run.failed ≡ false
  pub party_left : 0 < length left.p.left.items
  pub more : has_more_at (slice_get old.runs.items i) (slice_get old.totals.items i) ≡ true

module _ {D K : Type 0} (disk_says : DiskSays D) (sink_says : SinkSays K) (may_give : ℕ → Type 0) (scene : Scene) (p : Progress) (old : Turns D K)
    (r : AreGoing disk_says sink_says may_give scene p old) (i : ℕ) where
  pub replica_here : has_other p.others i ≡ true → IsHere scene old i
  replica_here has = elim (slice_get_cases old.replicas.others.items i).1 [
    | inl there ↦
        let other = there.0 in
        let in_scripts = also_at old.replicas.others.items scene.scripts i other r.following.count there.2 in
        let some : 0 < other = (let more = had in let same = get_or_from_slice_get old.replicas.others.items i other 0 there.2 in omega (arith, more, same)) in
        go other there.2 some in_scripts.0 in_scripts.1
    | inr past ↦ absurd (let more = had in let none = get_or_past old.replicas.others.items i 0 past.0 in omega (arith, more, none))
  ]
    where
      had : 0 < get_or old.replicas.others.items i 0
      had = ltb-true 0 (get_or old.replicas.others.items i 0) (ap (λ (os : List ℕ). has_other os i) (sym r.others) ∙ has)

      go : (other : ℕ) → slice_get old.replicas.others.items i ≡ Some other → 0 < other → (found : Option ReplicaScript) → slice_get scene.scripts i ≡ Some found → IsHere scene old i
      go other at_other some None at_script = absurd (let none = r.following.none i other at_script at_other in omega (arith, some, none))
      go other at_other some (Some script) at_script =
          let u = r.running.under_way in
          let run = also_at scene.scripts old.runs.items i (Some script) (u.as_many ∙ sym u.served.count) at_script in
          let left = r.following.left i script run.0 at_script run.1 in
          let same : left.other ≡ other = some_is (sym left.at_other ∙ at_other) in
          let some' : 0 < left.other = omega (arith, some, same) in
          let whole = not_failed run.0.failed left.other some' left.stopped in
          let total = left.total whole in
          let in_party = left.left whole in
          let low : run.0.commands < length (replica_commands (Some script)) = omega (arith, total, some') in
          record {
            script = script;
            at_script = at_script;
            run = run.0;
            at_run = run.1;
            left = left;
            some = some';
            whole = whole;
            party_left = omega (arith, in_party, some');
            more = (λ k. has_more_at (run.1 k) (r.running.totals i None (Some script) (u.apart i script at_script) at_script k)) ∙ lt-ltb run.0.commands (length (replica_commands (Some script))) low;
          }
        where
          not_failed : (b : Bool) (n : ℕ) → 0 < n → (b ≡ true → n ≡ 0) → b ≡ false
          not_failed true n some none = absurd (let zero_is = none refl in omega (arith, some, zero_is))
          not_failed false n some none = refl

module _ {D K : Type 0} (disk_says : DiskSays D) (sink_says : SinkSays K) (may_give : ℕ → Type 0) (scene : Scene) (p : Progress) (old new : Turns D K)
    (r : AreGoing disk_says sink_says may_give scene p old) (i : ℕ) where
  abbrev placed_all : List Place → List Placed
  placed_all o = map (placed scene.sessions) o

  abbrev Going : Progress → Type 0
  Going q = AreGoing disk_says sink_says may_give scene q new

  -- ---- a session

  pub session_advances : has_other p.others i ≡ false → new.replicas ≡ old.replicas → HaveCauses disk_says old new → TakesTurn disk_says sink_says may_give scene p.machine i old new → Advances disk_says sink_says may_give scene p i old new
  session_advances none same (k, came, causes) t =
      let turn : Turn = record { party = i; how = t.how; stops = t.stops } in
      let is : advanced p turn ≡ record p { machine = turned p.machine turn } =
      ap (λ (b : Bool). cond b (record p { others = others_turned p.others turn; turn_counts = counted p i }) (record p { machine = turned p.machine turn })) none in
      let now = map sink_says.given old.sinks.items in
      let now' = map sink_says.given new.sinks.items in
      let F : List Placed → Replicas → Type 0 = λ places rs. AreFollowing disk_says scene.since scene.start places may_give scene.scripts rs r.losses p.turn_counts new.runs.items scene.before now' in
      let stays = following_stays disk_says scene.since scene.start (placed_all old.order.items) may_give scene.scripts old.replicas r.losses p.turn_counts old.runs.items new.runs.items scene.before now now'
      (λ j script at_script.
      let one = t.others j script at_script in
      (one.0, slice_get-map sink_says.given new.sinks.items j ∙ (ap (option_map sink_says.given) one.1 ∙ sym (slice_get-map sink_says.given old.sinks.items j)))) r.following in
      let all : placed_all old.order.items ++ placed_all t.grown.0 ≡ placed_all new.order.items =
      sym (map-append (placed scene.sessions) old.order.items t.grown.0) ∙ ap (map (placed scene.sessions)) (sym t.grown.1) in
      let longer = following_longer disk_says scene.since scene.start (placed_all old.order.items) may_give scene.scripts (placed_all t.grown.0) old.replicas r.losses p.turn_counts new.runs.items scene.before now' stays in
      record {
        how = t.how;
        stops = t.stops;
        going = subst Going (sym is) (record {
          running = t.running;
          others = r.others ∙ ap (λ (rs : Replicas). rs.others.items) (sym same);
          losses = r.losses;
          following = subst (F (placed_all new.order.items)) (sym same) (subst (λ (places : List Placed). F places old.replicas) all longer);
          failures =
              let all_told : fault_count new.order.items + sum r.losses ≡ (fault_count old.order.items + sum r.losses) + k = omega (arith, came) in
              risen_by_more (fault_count old.order.items + sum r.losses) k (fault_count new.order.items + sum r.losses) _ _ _ _ _ _ all_told r.failures causes;
        });
        failed = t.failed;
        stay = t.stay;
        along = λ past h.
            let Along : Progress → Type 0 = λ q. AreAlong disk_says sink_says may_give past scene q.turn_counts new in
            subst Along (sym is) (along_session disk_says sink_says may_give past scene p.turn_counts old new h same t.others t.grown.0 t.grown.1 (t.grows past h.all h.master));
      }

  -- ---- a replica

  pub replica_advances : (here : IsHere scene old i) → has_other p.others i ≡ true → IsReplicaTurn disk_says sink_says i here.left.p old new
      → ((places : List Placed) → HasRun disk_says old.depot scene.since scene.start places → HasRun disk_says new.depot scene.since scene.start places)
      → ((disk : D) (files : Files) → disk_says.seen disk files → disk_says.may_leave disk files) → ((c : Chronicle) → HasGroups disk_says old.depot.journal c → HasGroups disk_says new.depot.journal c) → KeepsStored disk_says old.depot.archive new.depot.archive
      → CanTake disk_says old.depot → Advances disk_says sink_says may_give scene p i old new
  replica_advances here has t ran reads groups stored can =
      let turn : Turn = record { party = i; how = Fault; stops = t.failed } in
      let is : advanced p turn ≡ record p { others = others_turned p.others turn; turn_counts = counted p i } =
      ap (λ (b : Bool). cond b (record p { others = others_turned p.others turn; turn_counts = counted p i }) (record p { machine = turned p.machine turn })) has in
      let run_is : here.run ≡ t.answered.run = some_is (sym here.at_run ∙ t.answered.at_run) in
      let whole : t.answered.run.failed ≡ false = ap (λ (x : SessionRun). x.failed) (sym run_is) ∙ here.whole in
      let here_is = r.following.left i here.script t.answered.run here.at_script t.answered.at_run in
      let same_other : here_is.other ≡ here.left.other = some_is (sym here_is.at_other ∙ here.left.at_other) in
      let some = here.some in
      let lost = is_lost t.stepped.result in
      let losses' : List ℕ = set r.losses i (loss_after r.losses i lost) in
      let F : List Place → Type 0 = λ o. AreFollowing disk_says scene.since scene.start (placed_all o) may_give scene.scripts new.replicas losses' (counted p i) new.runs.items scene.before (map sink_says.given new.sinks.items) in
      record {
        how = Fault;
        stops = t.failed;
        going = subst Going (sym is) (record {
          running = running t here.at_script;
          others = ap (λ (os : List ℕ). others_turned os turn) r.others ∙ sym t.others;
          losses = losses';
          following = subst F (ap (λ (o : Vec Place Global). o.items) (sym t.order)) (following_turned disk_says scene.since scene.start (placed_all old.order.items) may_give scene.scripts sink_says old new
              r.running.ran i here.script here.at_script here.left.p here.left.at_party scene.before t whole r.losses p.turn_counts (counted p i) count_here count_there r.following (omega (arith, some, same_other)));
          failures =
              let same_order : fault_count new.order.items ≡ fault_count old.order.items = ap (λ (o : Vec Place Global). fault_count o.items) t.order in
              let within = slice_get_within scene.scripts i (Some here.script) here.at_script in
              let count = r.following.told.count in
              let one_more = all_lost r.losses i lost (omega (arith, within, count)) in
              let all_told : fault_count new.order.items + sum losses' ≡ (fault_count old.order.items + sum r.losses) + one_if lost = omega (arith, same_order, one_more) in
              risen_by_more (fault_count old.order.items + sum r.losses) (one_if lost) (fault_count new.order.items + sum losses') _ _ _ _ _ _ all_told r.failures t.stepped.risen;
        });
        failed = λ bad.
            let run' : SessionRun = record { commands = t.answered.run.commands + 1; failed = t.failed } in
            let P : Option SessionRun → Type 0 = λ found. IsSomeAnd found (λ (x : SessionRun). x.failed ≡ true) in
            subst P (sym (ap (λ (rs : List SessionRun). slice_get rs i) t.answered.runs ∙ set_here old.runs.items i t.answered.run run' t.answered.at_run)) bad;
        stay = stay_more sink_says [] old.runs.items new.runs.items old.sinks.items new.sinks.items i t.text t.failed t.answered whole;
        along = λ past h.
            let Along : Progress → Type 0 = λ q. AreAlong disk_says sink_says may_give past scene q.turn_counts new in
            subst Along (sym is) (along_replica disk_says sink_says may_give past scene p.turn_counts old new h reads (told_of disk_says reads old.depot.archive r.running.ran.tells can.room) i here.script here.at_script here.left.p here.left.at_party t whole
            (counted p i) count_here count_there (groups h.all h.master.groups) stored);
      }
    where
      -- its turn is counted, over all places
      many : length p.machine.order ≡ length (placed_all old.order.items)
      many = sym (length-map p.machine.order (λ (c : Commit). c.place)) ∙ ap (length {A = Placed}) (sym r.running.under_way.order_is)

      count_here : counted p i i ≡ p.turn_counts i ++ length (placed_all old.order.items) ∷ []
      count_here =
          ap (λ (b : Bool). cond b (p.turn_counts i ++ length p.machine.order ∷ []) (p.turn_counts i)) (eq-eqb i i refl) ∙ ap (λ (n : ℕ). p.turn_counts i ++ n ∷ []) many

      count_there : (j : ℕ) → (i ≡ j → ⊥) → counted p i j ≡ p.turn_counts j
      count_there j apart = ap (λ (b : Bool). cond b (p.turn_counts j ++ length p.machine.order ∷ []) (p.turn_counts j)) (ne_eqb j i (λ e. apart (sym e)))

      running : IsReplicaTurn disk_says sink_says i here.left.p old new → slice_get scene.scripts i ≡ Some (Some here.script) → IsRunning disk_says sink_says may_give scene p.machine new
      running t at_script =
          let u = r.running.under_way in
          let run' : SessionRun = record { commands = t.answered.run.commands + 1; failed = t.failed } in
          let R : LockCore → Vec ℕ Global → Vec Place Global → Type 0 = λ core totals order. IsRunning disk_says sink_says may_give scene p.machine (record new { core = core; totals = totals; order = order }) in
          let order = old.order.items in
          subst (λ (core : LockCore). R core new.totals new.order) (sym t.core) (subst (λ (totals : Vec ℕ Global). R old.core totals new.order) (sym t.totals) (subst (R old.core old.totals) (sym t.order) (record {
            formed = r.running.formed;
            under_way = record {
              served = served_other sink_says old.runs.items new.runs.items old.sinks.items new.sinks.items i t.text t.failed t.answered may_give scene.sessions scene.scripts scene.start scene.before order u.served
                  (λ e. let both = sym at_script ∙ e in cc);
              as_many = u.as_many;
              apart = u.apart;
              asked = u.asked;
              count = u.count;
              left = λ j own run q at_own at_run at_q.
                  elim (at_set old.runs.items i j run' run (ap (λ (rs : List SessionRun). slice_get rs j) (sym t.answered.runs) ∙ at_run)) [
                    | inl one ↦
                        let none = none_asked may_give 1 scene.sessions scene.requests u.asked j own (u.apart j here.script (ap (slice_get scene.scripts) (sym one.0) ∙ at_script)) at_own in
                        let first = u.left j own t.answered.run q at_own (ap (slice_get old.runs.items) (sym one.0) ∙ t.answered.at_run) at_q in
                        first ∙ (none_after own t.answered.run none ∙ sym (none_after own run none))
                    | inr other ↦ u.left j own run q at_own other.1 at_q
                  ];
              order_is = u.order_is;
            };
            totals = r.running.totals;
            shows = r.running.shows;
            rows = r.running.rows ∙ ap rows_of (sym t.tables);
            end = r.running.end ∙ ap (λ (ts : Tables). ts.archive_end) (sym t.tables);
            ran = ran (map (placed scene.sessions) order) r.running.ran;
          })))
