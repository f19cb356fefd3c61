-- The commit of one of the parties, and its answer.
use Rattle.std.proofs.Common.{◌≡◌, ◌≤◌, ℕ, ◌+◌, Bool, true, false, List, [], ◌∷◌, ◌++◌, map, set, Option, Some, None, Result, Ok, Err, refl, sym, ap, subst, ◌∙◌, inl, append-nil, arith}
use Rattle.std.specs.Prelude.{IfOk, OnErr, slice_get, option_map}
use Rattle.std.specs.Option.{IsSomeAnd}
use Rattle.std.proofs.lemmas.Bool.{lt-ltb}
use Rattle.std.proofs.lemmas.List.{map-set}
use Rattle.std.proofs.lemmas.Option.{slice_get-map, slice_get_within}
use Rattle.outside_api.specs.Says.{DiskSays, SinkSays}
use Rattle.archive_file.specs.Archive as archives
use Rattle.disk_journal.specs.Stands.{disk_of}
use Rattle.session_loop.proofs.Faults.{caused_once, caused_same, stand_once}
use Rattle.depot_rows.specs.depot_model.Deeds.{Deed}
use Rattle.depot_rows.specs.depot_model.Places.{Placed, taken, told_at}
use Rattle.depot_rows.specs.depot_model.Printed.{printed}
use Rattle.depot_rows.specs.depot_model.Tables.{needs_of}
use Rattle.depot_rows.specs.depot_model.declared.order.Answer.{Answer}
use Rattle.depot_rows.specs.depot_model.declared.order.Place.{Place}
use Rattle.depot_rows.specs.depot_model.declared.request.Request.{Request}
use Rattle.depot_runs.specs.Run.{placed}
use Rattle.depot_rows.specs.depot_model.Commands.{step}
use Rattle.lock_core.specs.Core.{IsAt, IsCommit, IsReady, Shows}
use Rattle.lock_core.specs.Finished.{Finishes}
use Rattle.lock_core.specs.declared.machine.LockCore.{LockCore}
use Rattle.lock_machine.specs.Machine.{Finish, State, Work, event}
use Rattle.lock_machine.specs.Machine as machine
use Rattle.lock_machine.proofs.Places.{set_here, some_is}
use Rattle.run_parties.proofs.Naming.{IsOf, proper}
use Rattle.run_parties.specs.Giving.{Got}
use Rattle.run_parties.specs.Served.{session_counts}
use Rattle.run_parties.specs.command_core.declared.outcome.Outcome.{Outcome}
use Rattle.run_parties.specs.replica_turns.Master.{IsMaster, Past}
use Rattle.run_parties.specs.depot_commit.Committing.{AreRowsAfter, IsOutcomeOf}
use Rattle.run_parties.specs.depot_commit.Growing.{Chronicle}
use Rattle.run_parties.specs.serial_depot.Running.{HasRun, HaveCause, HaveStood}
use Rattle.run_parties.specs.serial_depot.declared.depot.SerialDepot.{SerialDepot}
use Rattle.session_loop.specs.Taking.{IsProper, place_by, placed_by}
use Rattle.session_loop.specs.declared.session.SessionRun.{SessionRun}
use Rattle.session_turns.proofs.Orders.{IsNext}
use Rattle.session_turns.proofs.Turning.{commit_more, here, is_session, its, n, next_with, next_without, places_more, places_of, whole}
use Rattle.session_turns.proofs.Within.{others_same, stay_more}
use Rattle.session_turns.specs.Along.{GrowsTo}
use Rattle.session_turns.specs.Answering.{IsAnsweredAt, has_more_at, reply_of}
use Rattle.session_turns.specs.Drawn.{ended}
use Rattle.session_turns.specs.Running.{IsUnderWay, Scene}
use Rattle.session_turns.specs.Taking.{FaultsAreCounted, IsAtHand, IsBehind, IsDue, IsPlaced, IsRunning, IsUnplaced, TakesTurn, finish_for}
use Rattle.session_turns.specs.declared.turns.Turns.{Turns}
use Rattle.depot_rows.specs.table_changes.Changed.{AllRows, changed_by, rows_of}

-- an outcome that was found by the tables of the core is one by those of the depot
pub outcome_of : {D : Type 0} (start : List Deed) (s : State) (core : LockCore) (i : ℕ) (request : Request) (outcome : Outcome) (depot : SerialDepot D) → IsReady start s core i request outcome → rows_of core.tables ≡ rows_of depot.tables
    → core.tables.archive_end ≡ depot.tables.archive_end → IsOutcomeOf (rows_of depot.tables) depot.tables.archive_end request outcome
outcome_of start s core i request outcome depot ready rows end =
    let P : AllRows → ℕ → Type 0 = λ all from. IsOutcomeOf all from request outcome in
    subst (P (rows_of depot.tables)) end (subst (λ (all : AllRows). P all core.tables.archive_end) rows ready.outcome_is)

-- ---- the counts of the disks

module _ {D : Type 0} {disk_says : DiskSays D} {old new : SerialDepot D} {old_order new_order : List Place} where
  -- no place came, and no call failed
  pub counted_none : new_order ≡ old_order → HaveStood disk_says old new → FaultsAreCounted disk_says old new old_order new_order
  counted_none same stood =
      let journal = stood.journal in
      let archive = stood.archive in
      record { faults = caused_same _ _ _ _ old_order new_order same (omega (arith, journal)) (omega (arith, archive)); stand = λ none. (journal, archive) }

  -- one came
  pub counted_one : (place : Place) → new_order ≡ old_order ++ place ∷ [] → disk_says.faults (disk_of old.journal) ≤ disk_says.faults (disk_of new.journal)
      → disk_says.faults (archives.disk_of old.archive) ≤ disk_says.faults (archives.disk_of new.archive) → HaveCause disk_says place.fault old new → FaultsAreCounted disk_says old new old_order new_order
  counted_one place more le contents_le caused =
      subst (FaultsAreCounted disk_says old new old_order) (sym more) (record {
        faults = caused_once _ _ _ _ old_order place place.fault refl le contents_le caused.cause;
        stand = stand_once _ _ _ _ old_order place place.fault refl (λ whole. let stood = caused.only whole in (stood.journal, stood.archive));
      })

-- nothing was done
pub counted_same : {D : Type 0} {disk_says : DiskSays D} {depot : SerialDepot D} {old_order new_order : List Place} → new_order ≡ old_order → FaultsAreCounted disk_says depot depot old_order new_order
counted_same same = counted_none same (record { journal = refl; archive = refl })

module _ {D K : Type 0} (disk_says : DiskSays D) (sink_says : SinkSays K) (may_give : ℕ → Type 0) (scene : Scene) (s : State) (old : Turns D K)
    (r : IsRunning disk_says sink_says may_give scene s old) (i : ℕ) where
  abbrev now : List (Option (List ℕ))
  now = map sink_says.given old.sinks.items

  abbrev runs : List SessionRun
  runs = old.runs.items

  abbrev order : List Place
  order = old.order.items

  abbrev u : IsUnderWay may_give scene s runs now order
  u = r.under_way

  abbrev places : List Placed
  places = map (placed scene.sessions) order

  abbrev Ran : SerialDepot D → List Placed → Type 0
  Ran depot ps = HasRun disk_says depot scene.since scene.start ps

  module _ (request : Request) (commit : IsCommit scene.start s old.core i request) where
    abbrev at : IsAt s.parties i request
    at = commit.at

    -- how many of its commands are answered
    abbrev m : ℕ
    m = n may_give scene s runs now order u i at.party at.there commit.enabled

    it : IsOf may_give scene.sessions i m at.work.request
    it = its may_give scene s runs now order u i at.party at.there commit.enabled at.work at.has at.judged

    -- what it takes to be proper
    request_proper : IsProper request
    request_proper = subst IsProper at.asks (proper may_give scene.sessions i m at.work.request it r.formed)

    -- the party has one more
    more_is : has_more_at (slice_get runs i) (slice_get old.totals.items i) ≡ true
    more_is =
        let own = here may_give scene s runs now order u i at.party at.there commit.enabled in
        let session = is_session may_give scene s runs now order u i at.party at.there commit.enabled at.work at.has at.judged in
        let total = r.totals i (Some it.session) None it.has session in
        let within = slice_get_within it.session.commands m it.asked it.asks in
        (λ k. has_more_at (own.at_run k) (total k)) ∙ lt-ltb m _ within

    -- its outcome is one by the depot
    abbrev due : {E : Type 0} (outcome : Outcome) → IsReady scene.start s old.core i request outcome → IsDue {E = E} scene.start s old.core old.depot i request (Ok outcome)
    due outcome ready = record { found = outcome; is = refl; ready = ready; rows = r.rows; end = r.end; proper = request_proper }

    -- ---- its commit

    -- how it ended, where its place, if it got one, is behind the order
    record IsCommitted {E : Type 0} (mid : LockCore) (new : Turns D K) (answer : Result Answer E) : Type 0 where
      how : Finish
      shows : Shows scene.start mid (event needs_of s i how)
      rows : rows_of mid.tables ≡ rows_of new.depot.tables
      ran : Ran new.depot (map (placed scene.sessions) new.order.items)
      next : IsNext may_give scene.sessions scene.start (session_counts scene.scripts runs) i m order new.order.items (reply_of answer (m + 1))
      order_is : map (placed scene.sessions) new.order.items ≡ places_of s.order ++ places_of (machine.placed at.work.request how)
      grows : (past : Past) (c : Chronicle) → IsMaster disk_says past scene.start places old.depot c → GrowsTo disk_says past scene.start (map (placed scene.sessions) new.order.items) new.depot c

    module _ {E : Type 0} (mid : LockCore) (new : Turns D K) where
      -- it got a place
      committed_placed : (outcome : Outcome) → IsReady scene.start s old.core i request outcome → (answer : Answer) → IsPlaced disk_says scene.since scene.start places request outcome old.depot new.depot answer
          → new.order.items ≡ order ++ answer.place ∷ [] → Finishes old.core mid i (finish_for {E = E} (Ok answer)) → IsCommitted {E = E} mid new (Ok answer)
      committed_placed outcome ready answer got order_more finishes = go answer.place.fault refl
        where
          -- over the request of the machine
          w : Work
          w = at.work

          text : (fault : Bool) → answer.place.fault ≡ fault → printed (told_at step (taken step scene.start places) (placed_by w.request fault)) w.request.number ≡ answer.reply
          text fault is = (λ k. printed (told_at step (taken step scene.start places) (placed_by (at.asks k) (sym is k))) (at.asks k).number) ∙ sym got.answers.reply

          order_at : (fault : Bool) → answer.place.fault ≡ fault → new.order.items ≡ order ++ place_by w.request fault ∷ []
          order_at fault is = order_more ∙ ap (λ (p : Place). order ++ p ∷ []) (got.answers.place ∙ (λ k. place_by (sym at.asks k) (is k)))

          -- the places with one more
          places_at : (fault : Bool) → answer.place.fault ≡ fault → map (placed scene.sessions) new.order.items ≡ places ++ placed_by w.request fault ∷ []
          places_at fault is = ap (map (placed scene.sessions)) (order_at fault is) ∙ places_more may_give scene s runs now order u i at.party at.there commit.enabled w at.has at.judged fault

          with_it : (fault : Bool) → answer.place.fault ≡ fault → places ++ placed_by request answer.place.fault ∷ [] ≡ map (placed scene.sessions) new.order.items
          with_it fault is = (λ k. places ++ placed_by (sym at.asks k) (is k) ∷ []) ∙ sym (places_at fault is)

          order_of : (fault : Bool) → answer.place.fault ≡ fault → map (placed scene.sessions) new.order.items ≡ places_of s.order ++ placed_by w.request fault ∷ []
          order_of fault is = places_at fault is ∙ ap (λ (ps : List Placed). ps ++ placed_by w.request fault ∷ []) u.order_is

          next_at : (fault : Bool) → answer.place.fault ≡ fault → IsNext may_give scene.sessions scene.start (session_counts scene.scripts runs) i m order new.order.items answer.reply
          next_at fault is =
              let P : List Place → List ℕ → Type 0 = IsNext may_give scene.sessions scene.start (session_counts scene.scripts runs) i m order in
              subst (λ (o : List Place). P o answer.reply) (sym (order_at fault is)) (subst (P (order ++ place_by w.request fault ∷ [])) (text fault is)
              (next_with may_give scene s runs now order u i at.party at.there commit.enabled w at.has at.judged fault))

          grows_at : (fault : Bool) → answer.place.fault ≡ fault → (past : Past) (c : Chronicle) → IsMaster disk_says past scene.start places old.depot c
              → GrowsTo disk_says past scene.start (map (placed scene.sessions) new.order.items) new.depot c
          grows_at fault is past c master = subst (λ (ps : List Placed). GrowsTo disk_says past scene.start ps new.depot c) (with_it fault is) (got.grows past c master)

          go : (fault : Bool) → answer.place.fault ≡ fault → IsCommitted {E = E} mid new (Ok answer)
          go true is =
              let After : Bool → Type 0 = λ f. AreRowsAfter (rows_of old.depot.tables) outcome.changes f (rows_of new.depot.tables) in
              let Ends : Bool → Type 0 = λ f. Finishes old.core mid i (finish_for {E = E} (Ok (record answer { place = record answer.place { fault = f } }))) in
              let undone = (subst Ends is finishes) scene.start s request commit in
              record {
                how = machine.Fault;
                shows = undone.shows;
                rows = undone.rows ∙ (r.rows ∙ sym (subst After is got.rows));
                ran = subst (Ran new.depot) (with_it true is) got.ran;
                next = next_at true is;
                order_is = order_of true is;
                grows = grows_at true is;
              }
          go false is =
              let After : Bool → Type 0 = λ f. AreRowsAfter (rows_of old.depot.tables) outcome.changes f (rows_of new.depot.tables) in
              let Ends : Bool → Type 0 = λ f. Finishes old.core mid i (finish_for {E = E} (Ok (record answer { place = record answer.place { fault = f } }))) in
              let done = (subst Ends is finishes) scene.start s request outcome ready in
              record {
                how = machine.Done done.changed;
                shows = done.shows;
                rows = done.rows ∙ (ap (λ rows. changed_by rows outcome.changes) r.rows ∙ sym (subst After is got.rows));
                ran = subst (Ran new.depot) (with_it false is) got.ran;
                next = next_at false is;
                order_is = order_of false is;
                grows = grows_at false is;
              }

      -- it found no memory
      committed_unplaced : (error : E) → IsUnplaced disk_says old.depot new.depot order new.order.items → Finishes old.core mid i (finish_for (Err error)) → IsCommitted {E = E} mid new (Err error)
      committed_unplaced error none finishes =
          let same = none.order in
          let undone = finishes scene.start s request commit in
          let P : List Place → Type 0 = λ o. Ran new.depot (map (placed scene.sessions) o) in
          let Q : List Place → Type 0 = λ o. IsNext may_give scene.sessions scene.start (session_counts scene.scripts runs) i m order o (reply_of (Err error) (m + 1)) in
          record {
            how = machine.NoMemory;
            shows = undone.shows;
            rows = undone.rows ∙ (r.rows ∙ ap rows_of (sym none.tables));
            ran = subst P (sym same) (none.ran scene.since scene.start places r.ran);
            next = subst Q (sym same) (next_without may_give scene s runs now order u i at.party at.there commit.enabled at.work at.has at.judged);
            order_is = ap (map (placed scene.sessions)) same ∙ (u.order_is ∙ sym (append-nil (places_of s.order)));
            grows = λ past c master.
                subst (λ (o : List Place). GrowsTo disk_says past scene.start (map (placed scene.sessions) o) new.depot c) (sym same) (c, none.master past scene.start places c master, inl refl);
          }

      -- ---- its answer

      answered : (answer : Result Answer E) → IsCommitted mid new answer → (failed : Bool) → IsAnsweredAt sink_says i (reply_of answer) runs new.runs.items old.sinks.items new.sinks.items failed
          → new.core.tables ≡ mid.tables → mid.tables.archive_end ≡ new.depot.tables.archive_end → ((t : State) → Shows scene.start mid t → Shows scene.start new.core (ended t i failed))
          → new.totals ≡ old.totals → (more : List Place) × (new.order.items ≡ order ++ more)
          → TakesTurn disk_says sink_says may_give scene s i old new
      answered answer c failed a tables_same end shows totals grown =
          let own = here may_give scene s runs now order u i at.party at.there commit.enabled in
          let run_is : own.run ≡ a.run = some_is (sym own.at_run ∙ a.at_run) in
          let got_at : slice_get now i ≡ Some (sink_says.given a.sink) = slice_get-map sink_says.given old.sinks.items i ∙ ap (option_map sink_says.given) a.at_sink in
          let P : ℕ → Type 0 = λ k. Got failed (reply_of answer (k + 1)) (sink_says.given a.sink) (sink_says.given a.new) in
          let gives = subst P (ap (λ (run : SessionRun). run.commands) (sym run_is)) a.got in
          let more = commit_more may_give scene s runs now order u i at.party at.there commit.enabled at.work at.has at.judged
          c.how new.order.items (reply_of answer (m + 1)) c.next c.order_is failed (sink_says.given a.sink) (sink_says.given a.new) got_at gives in
          let run' : SessionRun = record { commands = m + 1; failed = failed } in
          let runs_are : new.runs.items ≡ set runs i run' = a.runs ∙ ap (λ (run : SessionRun). set runs i (record { commands = run.commands + 1; failed = failed })) (sym run_is) in
          let sinks_are : map sink_says.given new.sinks.items ≡ set now i (sink_says.given a.new) = ap (map sink_says.given) a.sinks ∙ map-set sink_says.given old.sinks.items i a.new in
          let U : List SessionRun → List (Option (List ℕ)) → Type 0 = λ rs ks. IsUnderWay may_give scene (ended (event needs_of s i c.how) i failed) rs ks new.order.items in
          let good = whole may_give scene s runs now order u i at.party at.there commit.enabled at.work at.has at.judged in
          let session = is_session may_give scene s runs now order u i at.party at.there commit.enabled at.work at.has at.judged in
          record {
            how = c.how;
            stops = failed;
            running = record {
              formed = r.formed;
              under_way = subst (λ (rs : List SessionRun). U rs (map sink_says.given new.sinks.items)) (sym runs_are) (subst (U (set runs i run')) (sym sinks_are) more);
              totals = λ j x y at_x at_y. ap (λ t. slice_get t.items j) totals ∙ r.totals j x y at_x at_y;
              shows = shows (event needs_of s i c.how) c.shows;
              rows = ap rows_of tables_same ∙ c.rows;
              end = ap (λ t. t.archive_end) tables_same ∙ end;
              ran = c.ran;
            };
            failed = λ is.
                let Q : List SessionRun → Type 0 = λ rs. IsSomeAnd (slice_get rs i) (λ (run : SessionRun). run.failed ≡ true) in
                let R : Option SessionRun → Type 0 = λ found. IsSomeAnd found (λ (run : SessionRun). run.failed ≡ true) in
                subst Q (sym runs_are) (subst R (sym (set_here runs i own.run run' own.at_run)) is);
            stay = stay_more sink_says [] runs new.runs.items old.sinks.items new.sinks.items i (reply_of answer) failed a (ap (λ (run : SessionRun). run.failed) (sym run_is) ∙ good);
            others = λ j script at_script. others_same sink_says [] runs new.runs.items old.sinks.items new.sinks.items i (reply_of answer) failed a j (λ e. let both = sym at_script ∙ (ap (slice_get scene.scripts) e ∙ session) in cc);
            grown = grown;
            grows = c.grows;
          }

  -- ---- with an outcome, or without memory for one

  -- the party has one more command
  pub hand_more : {E : Type 0} (outcome : Result Outcome E) → IsAtHand scene.start s old.core i outcome → has_more_at (slice_get runs i) (slice_get old.totals.items i) ≡ true
  hand_more (Ok outcome) hand = more_is hand.0 hand.1.commit
  hand_more (Err error) hand = more_is hand.0 hand.1

  module _ (mid : LockCore) (new : Turns D K) (failed : Bool) {E : Type 0} where
    pub made : (outcome : Result Outcome E) (answer : Result Answer E) → IsAtHand scene.start s old.core i outcome
        → ((request : Request) (is : IsDue scene.start s old.core old.depot i request outcome) → IfOk answer (IsPlaced disk_says scene.since scene.start places request is.found old.depot new.depot))
        → IfOk answer (λ (a : Answer). IsBehind outcome a order new.order.items) → OnErr answer (IsUnplaced disk_says old.depot new.depot order new.order.items) → Finishes old.core mid i (finish_for answer)
        → IsAnsweredAt sink_says i (reply_of answer) runs new.runs.items old.sinks.items new.sinks.items failed → new.core.tables ≡ mid.tables → mid.tables.archive_end ≡ new.depot.tables.archive_end
        → ((t : State) → Shows scene.start mid t → Shows scene.start new.core (ended t i failed)) → new.totals ≡ old.totals
        → TakesTurn disk_says sink_says may_give scene s i old new
    made (Ok outcome) (Ok answer) hand got behind none finishes a tables end shows totals =
        let placed_one = committed_placed hand.0 hand.1.commit {E = E} mid new outcome hand.1 answer (got hand.0 (due hand.0 hand.1.commit {E = E} outcome hand.1)) behind.order finishes in
        answered hand.0 hand.1.commit {E = E} mid new (Ok answer) placed_one failed a tables end shows totals (answer.place ∷ [], behind.order)
    made (Ok outcome) (Err error) hand got behind none finishes a tables end shows totals =
        answered hand.0 hand.1.commit {E = E} mid new (Err error) (committed_unplaced hand.0 hand.1.commit {E = E} mid new error none finishes) failed a tables end shows totals ([], none.order ∙ sym (append-nil order))
    made (Err error) (Ok answer) hand got behind none finishes a tables end shows totals = absurd (let is : Err error ≡ Ok behind.found = behind.is in cc)
    made (Err error) (Err other) hand got behind none finishes a tables end shows totals =
        answered hand.0 hand.1 {E = E} mid new (Err other) (committed_unplaced hand.0 hand.1 {E = E} mid new other none finishes) failed a tables end shows totals ([], none.order ∙ sym (append-nil order))
