-- What the end of a commit is to all parties.
use Rattle.std.proofs.Common.{◌≡◌, ◌<◌, ◌≤◌, ℕ, Bool, true, false, cond, List, [], ◌∷◌, ◌++◌, length, set, take, Option, Some, None, not, refl, sym, ap, subst, ◌∙◌, append-nil, arith}
use Rattle.std.specs.Prelude.{slice_get, option_map, ◌&&◌, ◌||◌}
use Rattle.std.specs.List.{list_any}
use Rattle.std.proofs.Math.Path.{fun_ext}
use Rattle.std.proofs.lemmas.List.{map-set}
use Rattle.std.proofs.lemmas.Option.{slice_get_within}
use Rattle.depot_rows.specs.db_records.declared.table.TableId.{TableId}
use Rattle.depot_rows.specs.table_changes.Changed.{AllRows, changed_by, rows_of}
use Rattle.depot_rows.specs.table_store.Rows.{TableRows}
use Rattle.depot_rows.specs.table_store.Tables.{version_of}
use Rattle.depot_rows.specs.table_store.declared.tables.Tables.{Tables}
use Rattle.depot_rows.specs.depot_model.Commands.{step}
use Rattle.depot_rows.specs.depot_model.Deeds.{Deed}
use Rattle.depot_rows.specs.depot_model.Step.{after}
use Rattle.depot_rows.specs.depot_model.Tables.{needs_of}
use Rattle.depot_rows.specs.depot_model.declared.request.Request.{Request}
use Rattle.depot_rows.specs.Standing.{HasRows, Stand}
use Rattle.command_core.specs.declared.outcome.Outcome.{Outcome}
use Rattle.depot_rows.specs.depot_model.declared.lock.LockId.{LockId}
use Rattle.lock_machine.specs.Machine.{guards, Commit, State, Finish, Done, may_go, placed, added, added_at, moved, worked, acted, acts, event}
use Rattle.lock_machine.specs.Machine as model
use Rattle.lock_machine.specs.Runs.{AreChanged, depot_after, Tells, TellsBy, TellsAt, IsRun}
use Rattle.lock_machine.specs.declared.stage.Stage.TheVariants.{Committed}
use Rattle.lock_machine.proofs.Orderly.{guards_none}
use Rattle.lock_machine.proofs.Places.{some_is}
use Rattle.lock_machine.proofs.Runs.{after_more, run_event}
use Rattle.lock_core.specs.Core.{request_by, request_in, AreShown, Shows, IsAt, IsCommit, IsReady}
use Rattle.lock_core.specs.Finished.{Finishes, IsDone, IsUndone, IsPut, PutsIn, room_in, marked_party, marked_parties, committed_work, committed_party}
use Rattle.lock_core.specs.Parties.{IsShownBy, IsShown}
use Rattle.lock_core.specs.Works.{IsWorkShown, looked_at, looked_behind, marked}
use Rattle.lock_core.specs.declared.machine.LockCore.{LockCore}
use Rattle.lock_core.specs.declared.party.Party.{Party}
use Rattle.lock_core.specs.declared.turn.Finish as code_finish
use Rattle.lock_core.specs.declared.turn.Finish.TheVariants as code
use Rattle.command_needs.specs.Sets.{locks_in, tables_in, writes_behind}
use Rattle.command_needs.specs.declared.needs.Needs.{Needs}
use Rattle.command_needs.proofs.Listed.{in_tables}
use Rattle.lock_core.specs.declared.work.Room.{Room}
use Rattle.lock_core.specs.declared.work.Work.{Work}
use Rattle.lock_core.proofs.Counterparts.{shown_of, set_shown}
use Rattle.lock_core.proofs.Placing.{all_after}
use Rattle.lock_core.proofs.Telling.{tells}

-- ---- nothing is stale for no change

looked_none : (needs : Needs) (second : Bool) (xs : List LockId) → list_any (looked_behind needs second []) xs ≡ false
looked_none needs second [] = refl
looked_none needs second (x ∷ xs) = go (not (second || writes_behind needs x)) (guards [] x) (guards_none x) (looked_none needs second xs)
  where
    go : (a b : Bool) → b ≡ false → list_any (looked_behind needs second []) xs ≡ false → ((a && b) || list_any (looked_behind needs second []) xs) ≡ false
    go a true never rest = absurd cc
    go true false never rest = rest
    go false false never rest = rest

unmarked : (ps : List Party) → marked_parties [] ps ≡ ps
unmarked [] = refl
unmarked (p ∷ ps) = λ i. record p { work = one p.work i } ∷ unmarked ps i
  where
    or_false : (b c : Bool) → c ≡ false → (b || c) ≡ b
    or_false true c e = refl
    or_false false c e = e

    one : (work : Option Work) → option_map (marked []) work ≡ work
    one None = refl
    one (Some w) = ap (λ b. Some (record w { stale = b })) (or_false w.stale (looked_at [] w) (looked_none w.needs w.second (take w.done (locks_in w.needs))))

-- ---- the commit that is at hand

module _ (start : List Deed) (s : State) (old : LockCore) (i : ℕ) (request : Request) (commit : IsCommit start s old i request) where
  abbrev at : IsAt s.parties i request
  at = commit.at

  abbrev d : List Deed
  d = depot_after start s.order

  abbrev after_party : model.Party
  after_party = record { left = at.party.left; work = Some (record at.work { stage = Committed }) }

  moved_is : moved needs_of s.order at.party.left at.party.work ≡ after_party
  moved_is = ap (moved needs_of s.order at.party.left) at.has ∙ ap (λ st. record { left = at.party.left; work = worked needs_of s.order at.work st }) at.judged

  added_is : (how : Finish) → added at.party.work how ≡ placed at.work.request how
  added_is how = ap (λ w. added w how) at.has ∙ ap (λ st. added_at at.work.request st how) at.judged

  may : may_go s.parties at.party.left at.party.work ≡ true
  may = ap (may_go s.parties at.party.left) at.has ∙ ap (λ st. model.may_work s.parties st at.work.rest) at.judged

  abbrev next : Finish → State
  next how = record { parties = set s.parties i after_party; order = s.order ++ placed at.work.request how }

  event_is : (how : Finish) → event needs_of s i how ≡ next how
  event_is how =
      ap (acts needs_of s i how) at.there ∙ (ap (λ b. cond b (acted needs_of s i at.party how) s) may
      ∙ (λ k. record { parties = set s.parties i (moved_is k); order = s.order ++ added_is how k }))

  run_next : (how : Finish) → Tells d at.work.request how → IsRun start (next how)
  run_next how tell =
      let P : Option model.Party → Type 0 = λ found. TellsAt d found how in
      let Q : Option model.Work → Type 0 = λ work. TellsBy d work how in
      let R : State → Type 0 = IsRun start in
      subst R (event_is how) (run_event start s commit.shows.run how i (subst P (sym at.there) (subst Q (sym at.has) (λ stage. tell))))

  -- ---- the parties

  pub its_party : (p : Party) × (slice_get old.parties.items i ≡ Some p) × IsShown s.order p at.party
  its_party = shown_of s.order old.parties.items s.parties i at.party commit.shows.parties at.there

  abbrev committed : Party
  committed = committed_party its_party.0

  -- who has its place needs to know nothing more
  placed_shown : (order : List Commit) (changed : List TableId) (w : Work) (v : model.Work) → IsWorkShown s.order w v → IsWorkShown order (marked changed (committed_work w)) (record v { stage = Committed })
  placed_shown order changed w v h = record { request = h.request; stage = refl; second = h.second; set = h.set; seen = h.seen; rest = h.rest; stale = λ g. absurd cc }

  party_shown : (order : List Commit) (changed : List TableId) → IsShown order (marked_party changed committed) after_party
  party_shown order changed =
      let h = its_party.2 in
      record { fresh = h.fresh; left_is = h.left_is; work_is = go its_party.0.work at.party.work at.has h.work_is }
    where
      go : (work : Option Work) (other : Option model.Work) → other ≡ Some at.work → IsShownBy s.order work other
          → IsShownBy order (option_map (marked changed) (option_map committed_work work)) (Some (record at.work { stage = Committed }))
      go None other same shown = let P : Option model.Work → Type 0 = IsShownBy s.order None in absurd (subst P same shown)
      go (Some w) other same shown = let P : Option model.Work → Type 0 = IsShownBy s.order (Some w) in placed_shown order changed w at.work (subst P same shown)

  -- all of them after one more place
  after_place : (c : Commit) → AreShown (s.order ++ c ∷ []) (marked_parties c.changed (set old.parties.items i committed)) (set s.parties i after_party)
  after_place c =
      let P : List Party → Type 0 = λ ps. AreShown (s.order ++ c ∷ []) ps (set s.parties i after_party) in
      subst P (sym (map-set (marked_party c.changed) old.parties.items i committed))
      (set_shown (s.order ++ c ∷ []) (marked_parties c.changed old.parties.items) s.parties i (marked_party c.changed committed) after_party
      (all_after s.order c old.parties.items s.parties commit.shows.parties (λ j q at_j. commit.shows.run.orderly.each j q at_j)) (party_shown (s.order ++ c ∷ []) c.changed))

  -- ---- one that is done

  module _ (outcome : Outcome) (ready : IsReady start s old i request outcome) where
    abbrev changed : List TableId
    changed = tables_in ready.room.room.changed

    told : AreChanged d (after d (step d at.work.request).deeds) changed
    told =
        let P : Request → Type 0 = λ r. AreChanged d (after d (step d r).deeds) changed in
        subst P (sym at.asks) (tells (rows_of old.tables) d (after d (step d request).deeds) outcome.changes changed commit.shows.stand (ready.outcome_is d commit.shows.stand).changes (λ table. in_tables ready.room.room.changed table ∙ ready.room.is.changed table))

    abbrev place : Commit
    place = record { place = record { request = Some at.work.request; fault = false }; changed = changed }

    pub done : (new : LockCore) → rows_of new.tables ≡ changed_by (rows_of old.tables) outcome.changes → new.parties.items ≡ marked_parties changed (set old.parties.items i committed)
        → IsDone start s old new i outcome
    done new rows_are parties_are =
        let S : State → Type 0 = Shows start new in
        let Parts : List Party → Type 0 = λ ps. AreShown (s.order ++ place ∷ []) ps (set s.parties i after_party) in
        let depot_is : depot_after start (s.order ++ place ∷ []) ≡ after d (step d request).deeds = after_more start s.order (place ∷ []) ∙ ap (λ r. after d (step d r).deeds) at.asks in
        let run = run_next (Done changed) told in
        let Rows : AllRows → Type 0 = λ r. (table : TableId) → HasRows r (after d (step d request).deeds) table in
        let Of : List Deed → Type 0 = λ e. (table : TableId) → HasRows (rows_of new.tables) e table in
        record {
          changed = changed;
          shows = subst S (sym (event_is (Done changed))) (record {
            run = run;
            stand = record {
              sound = run.sound;
              each = subst Of (sym depot_is) (subst Rows (sym rows_are) (λ table. (ready.outcome_is d commit.shows.stand).changes.left table (commit.shows.stand.each table)));
            };
            parties = subst Parts (sym parties_are) (after_place place);
          });
          rows = rows_are;
        }

  -- ---- one that isn't

  abbrev fault : Commit
  fault = record { place = record { request = Some at.work.request; fault = true }; changed = [] }

  pub failed : (new : LockCore) → rows_of new.tables ≡ rows_of old.tables → new.parties.items ≡ set old.parties.items i committed → IsUndone start s old new i model.Fault
  failed new rows_are parties_are =
      let S : State → Type 0 = Shows start new in
      let Parts : List Party → Type 0 = λ ps. AreShown (s.order ++ fault ∷ []) ps (set s.parties i after_party) in
      let Rows : AllRows → Type 0 = λ r. Stand r d in
      let Of : List Deed → Type 0 = λ e. Stand (rows_of new.tables) e in
      record {
        shows = subst S (sym (event_is model.Fault)) (record {
          run = run_next model.Fault tt;
          stand = subst Of (sym (after_more start s.order (fault ∷ []))) (subst Rows (sym rows_are) commit.shows.stand);
          parties = subst Parts (unmarked (set old.parties.items i committed) ∙ sym parties_are) (after_place fault);
        });
        rows = rows_are;
      }

  pub without_place : (new : LockCore) → rows_of new.tables ≡ rows_of old.tables → new.parties.items ≡ set old.parties.items i committed → IsUndone start s old new i model.NoMemory
  without_place new rows_are parties_are =
      let S : State → Type 0 = Shows start new in
      let Parts : List Party → Type 0 = λ ps. AreShown (s.order ++ []) ps (set s.parties i after_party) in
      let Order : List Commit → Type 0 = λ o. AreShown o (set old.parties.items i committed) (set s.parties i after_party) in
      let Mine : Party → Type 0 = λ p. IsShown s.order p after_party in
      let mine : marked_party [] committed ≡ committed = (λ k. at_zero (unmarked (committed ∷ []) k)) in
      let Rows : AllRows → Type 0 = λ r. Stand r d in
      let Of : List Commit → Type 0 = λ o. Stand (rows_of new.tables) (depot_after start o) in
      record {
        shows = subst S (sym (event_is model.NoMemory)) (record {
          run = run_next model.NoMemory tt;
          stand = subst Of (sym (append-nil s.order)) (subst Rows (sym rows_are) commit.shows.stand);
          parties = subst Parts (sym parties_are)
              (subst Order (sym (append-nil s.order)) (set_shown s.order old.parties.items s.parties i committed after_party commit.shows.parties (subst Mine mine (party_shown s.order []))));
        });
        rows = rows_are;
      }
    where
      at_zero : List Party → Party
      at_zero [] = committed
      at_zero (p ∷ ps) = p

-- ---- the end of a commit in the code

pub same_versions : (old new : Tables) → ((table : TableId) → version_of new table ≡ version_of old table) → rows_of new ≡ rows_of old
same_versions old new same = fun_ext (λ table. ap (λ (v : TableRows). v.rows) (same table))

-- the party of a commit is there
pub is_within : (start : List Deed) (s : State) (old : LockCore) (i : ℕ) (request : Request) → IsCommit start s old i request → i < length old.parties.items
is_within start s old i request commit = let its = its_party start s old i request commit in slice_get_within old.parties.items i its.0 its.1

module _ (start : List Deed) (s : State) (old new : LockCore) (i : ℕ) (request : Request) (p p' : Party) (at_i : slice_get old.parties.items i ≡ Some p) (committed_is : p' ≡ committed_party p)
    (commit : IsCommit start s old i request) where
  set_is : set old.parties.items i p' ≡ set old.parties.items i (committed_party (its_party start s old i request commit).0)
  set_is = ap (set old.parties.items i) (committed_is ∙ ap committed_party (some_is (sym at_i ∙ (its_party start s old i request commit).1)))

  pub finished_done : (outcome : Outcome) → IsReady start s old i request outcome → (put : LockCore) (found : Option Room) → found ≡ room_in p.work → PutsIn found (set old.parties.items i p') put
      → ((table : TableId) → version_of new.tables table ≡ version_of put.tables table) → new.parties.items ≡ put.parties.items → IsDone start s old new i outcome
  finished_done outcome ready put found gives puts same parties_are =
      let one : p ≡ ready.room.party = some_is (sym at_i ∙ ready.room.there) in
      let its : found ≡ Some ready.room.room = gives ∙ (ap (λ (x : Party). room_in x.work) one ∙ (ap room_in ready.room.has ∙ ready.room.with_room)) in
      let P : Option Room → Type 0 = λ room. PutsIn room (set old.parties.items i p') put in
      let is_put : IsPut ready.room.room (set old.parties.items i p') put = subst P its puts in
      done start s old i request commit outcome ready new
      (same_versions put.tables new.tables same ∙ (ap rows_of is_put.tables ∙ ready.room.is.after))
      (parties_are ∙ (is_put.marked ∙ ap (marked_parties (tables_in ready.room.room.changed)) set_is))

  pub finished_fault : ((table : TableId) → version_of new.tables table ≡ version_of old.tables table) → new.parties.items ≡ set old.parties.items i p' → IsUndone start s old new i model.Fault
  finished_fault same parties_are = failed start s old i request commit new (same_versions old.tables new.tables same) (parties_are ∙ set_is)

  pub finished_none : ((table : TableId) → version_of new.tables table ≡ version_of old.tables table) → new.parties.items ≡ set old.parties.items i p' → IsUndone start s old new i model.NoMemory
  finished_none same parties_are = without_place start s old i request commit new (same_versions old.tables new.tables same) (parties_are ∙ set_is)

-- a party that isn't there has no commit at hand
pub never_past : (old new : LockCore) (i : ℕ) → length old.parties.items ≤ i → (how : code_finish.Finish) → Finishes old new i how
never_past old new i past code.Done = λ start s request outcome ready. absurd (let within = is_within start s old i request ready.commit in omega arith)
never_past old new i past code.Fault = λ start s request commit. absurd (let within = is_within start s old i request commit in omega arith)
never_past old new i past code.NoMemory = λ start s request commit. absurd (let within = is_within start s old i request commit in omega arith)

-- ---- its request

pub its_request : (start : List Deed) (s : State) (core : LockCore) (i : ℕ) (request : Request) → IsCommit start s core i request → request_in (slice_get core.parties.items i) ≡ Some request
its_request start s core i request commit =
    let its = its_party start s core i request commit in
    ap request_in its.1 ∙ go its.0.work commit.at.party.work commit.at.has its.2.work_is
  where
    go : (work : Option Work) (other : Option model.Work) → other ≡ Some commit.at.work → IsShownBy s.order work other → request_by work ≡ Some request
    go None other same shown = let P : Option model.Work → Type 0 = IsShownBy s.order None in absurd (subst P same shown)
    go (Some w) other same shown = let P : Option model.Work → Type 0 = IsShownBy s.order (Some w) in let its = subst P same shown in ap (λ (r : Request). Some r) (its.request ∙ commit.at.asks)
