-- Whatever events come, each party sees the depot as it is when it commits.
use Rattle.std.proofs.Common.{◌≡◌, ℕ, zero, suc, Bool, true, false, cond, List, [], ◌∷◌, ◌++◌, map, take, drop, set, Option, Some, None, refl, sym, ap, subst, ◌∙◌, inl, inr, append-nil}
use Rattle.std.specs.Prelude.{slice_get}
use Rattle.std.specs.List.{list_any}
use Rattle.std.proofs.lemmas.List.{map-append}
use Rattle.std.proofs.lemmas.Bool.{or_parts}
use Rattle.depot_model.specs.db_records.Key.{key_table}
use Rattle.depot_model.specs.db_records.declared.key.Key.{Key}
use Rattle.depot_model.specs.db_records.declared.table.TableId.{TableId}
use Rattle.depot_model.specs.Commands.{step}
use Rattle.depot_model.specs.Deeds.{Deed}
use Rattle.depot_model.specs.Places.{Placed, done_at, taken}
use Rattle.depot_model.specs.Records.{record_of}
use Rattle.depot_model.specs.Rules.{IsSound}
use Rattle.depot_model.specs.Step.{after}
use Rattle.depot_model.specs.Tables.{Need, needs_of}
use Rattle.depot_model.specs.declared.lock.LockId.{LockId}
use Rattle.depot_model.specs.declared.lock.LockId.TheVariants.{Table, Archive, Journal}
use Rattle.depot_model.specs.declared.request.Request.{Request}
use Rattle.lock_machine.specs.Machine.{guards, Seen, Work, Party, Commit, State, Finish, Done, Fault, NoMemory, has_judged, is_stale, owns_by, judged, gathered, worked, may_go, moved, placed, added, added_at, acted, acts, event}
use Rattle.lock_machine.specs.declared.stage.Stage.{Stage}
use Rattle.lock_machine.specs.declared.stage.Stage.TheVariants.{Gathering, Judged, Committed}
use Rattle.lock_machine.specs.Orderly.{is_written, AllLast, IsAtHand, AtHand, ChangesWritten, MayFinish}
use Rattle.lock_machine.specs.Runs.{depot_after, IsTold, Tells, TellsBy, TellsAt, Event, events, AllTell, AllServedIn, idle, beginning, AreSights, SawAll, AllServed, IsServedBy, AreServed, IsRun}
use Rattle.lock_machine.proofs.Places.{some_is, true_or_false}
use Rattle.lock_machine.proofs.Orderly.{acts_orderly, changes_lock}
use Rattle.lock_machine.proofs.Written.{writes_alone}
use Rattle.sound_requests.proofs.All.{asked_sound}
use Rattle.lock_machine.specs.Proper.{IsServed}

-- ---- the depot behind an order

taken_more : (d : List Deed) (xs ys : List Placed) → taken step d (xs ++ ys) ≡ taken step (taken step d xs) ys
taken_more d [] ys = refl
taken_more d (x ∷ xs) ys = taken_more (after d (done_at step d x)) xs ys

pub after_more : (d : List Deed) (order more : List Commit) → depot_after d (order ++ more) ≡ depot_after (depot_after d order) more
after_more d order more = ap (taken step d) (map-append (λ (c : Commit). c.place) order more) ∙ taken_more d (map (λ (c : Commit). c.place) order) (map (λ (c : Commit). c.place) more)

told_more : (d : List Deed) (order more : List Commit) → IsTold d order → IsTold (depot_after d order) more → IsTold d (order ++ more)
told_more d [] more told next = next
told_more d (c ∷ order) more told next = (told.0, told_more (after d (done_at step d c.place)) order more told.1 next)

-- a table that no place changed stays
stays : (d : List Deed) (order : List Commit) (lock : LockId) → IsTold d order → list_any (changes_lock lock) order ≡ false → (key : Key) → Table (key_table key) ≡ lock
    → record_of d key ≡ record_of (depot_after d order) key
stays d [] lock told none key at = refl
stays d (c ∷ order) lock told none key at =
    let parts = or_parts (guards c.changed lock) (list_any (changes_lock lock) order) none in
    told.0.same key (ap (guards c.changed) at ∙ parts.0) ∙ stays (after d (done_at step d c.place)) order lock told.1 parts.1 key at

stays_from : (d : List Deed) (order : List Commit) (n : ℕ) (lock : LockId) → IsTold d order → list_any (changes_lock lock) (drop n order) ≡ false → (key : Key) → Table (key_table key) ≡ lock
    → record_of (depot_after d (take n order)) key ≡ record_of (depot_after d order) key
stays_from d order zero lock told none key at = stays d order lock told none key at
stays_from d [] (suc n) lock told none key at = refl
stays_from d (c ∷ order) (suc n) lock told none key at = stays_from (after d (done_at step d c.place)) order n lock told.1 none key at

-- ---- what is seen once a party has judged

sights : (d : List Deed) (order : List Commit) (second : Bool) (seen : List Seen) → IsTold d order → AllLast order Judged second seen → AreSights d order seen
sights d order second [] told last = tt
sights d order second (s ∷ seen) told last = (
  λ key at. stays_from d order s.places s.need.lock told (last.0.untouched refl) key at,
  sights d order second seen told last.1,
)

pub saw_all : (start : List Deed) (order : List Commit) (w : Work) → IsTold start order → IsAtHand needs_of order w → w.stage ≡ Judged → SawAll start order w
saw_all start order w told hand is = record {
  whole =
      sym (append-nil (map (λ (s : Seen). s.need) w.seen))
      ∙ (ap (λ (r : List Need). map (λ (s : Seen). s.need) w.seen ++ r) (sym (hand.whole (ap has_judged is))) ∙ hand.set);
  sights = let P : Stage → Type 0 = λ st. AllLast order st w.second w.seen in sights start order w.second w.seen told (subst P is hand.last);
}

-- ---- each event

-- a request leaves a sound depot sound
stays_sound : (d : List Deed) (request : Request) → IsSound d → IsServed request → IsSound (after d (step d request).deeds)
stays_sound d request sound served = asked_sound d request sound served.proper.asked served.typed

changes_written : (d : List Deed) (request : Request) (how : Finish) → IsSound d → IsServed request → Tells d request how → ChangesWritten needs_of request how
changes_written d request (Done changed) sound served tells = by
  where
    by : (lock : LockId) → guards changed lock ≡ true → is_written (needs_of request) lock ≡ true
    by Archive has = absurd cc
    by Journal has = absurd cc
    by (Table table) has =
        let different = tells.differ table has in
        elim (true_or_false (is_written (needs_of request) (Table table))) [
          | inl written ↦ written
          | inr alone ↦ absurd (different.2 (sym (writes_alone d request different.0 (ap (λ (t : TableId). is_written (needs_of request) (Table t)) different.1 ∙ alone))))
        ]
changes_written d request Fault sound served tells = tt
changes_written d request NoMemory sound served tells = tt

-- the requests of the party at a place
pub served_at : (parties : List Party) (i : ℕ) (p : Party) → slice_get parties i ≡ Some p → AreServed parties → AllServed p.left × IsServedBy p.work
served_at [] i p at_i served = absurd cc
served_at (q ∷ parties) zero p at_i served = let P : Party → Type 0 = λ x. AllServed x.left × IsServedBy x.work in subst P (some_is at_i) (served.0, served.1)
served_at (q ∷ parties) (suc i) p at_i served = served_at parties i p at_i served.2

pub served_set : (parties : List Party) (i : ℕ) (p : Party) → AreServed parties → AllServed p.left × IsServedBy p.work → AreServed (set parties i p)
served_set [] i p all one = tt
served_set (q ∷ parties) zero p all one = (one.0, one.1, all.2)
served_set (q ∷ parties) (suc i) p all one = (all.0, all.1, served_set parties i p all.2 one)

module _ (start : List Deed) (s : State) (run : IsRun start s) (how : Finish) where
  abbrev now : List Deed
  now = depot_after start s.order

  may_finish : (work : Option Work) → IsServedBy work → TellsBy now work how → MayFinish needs_of work how
  may_finish None served tells = tt
  may_finish (Some w) served tells = λ is. changes_written now w.request how run.sound served (tells is)

  -- what a commit adds
  abbrev IsNext : List Commit → Type 0
  IsNext more = IsTold now more × IsSound (depot_after now more)

  next_placed : (request : Request) (how : Finish) → IsServed request → Tells now request how → IsNext (placed request how)
  next_placed request (Done changed) served tells = ((tells, tt), stays_sound now request run.sound served)
  next_placed request Fault served tells = ((record { same = λ key is. refl; differ = λ table has. absurd (cc) }, tt), run.sound)
  next_placed request NoMemory served tells = (tt, run.sound)

  next_added : (work : Option Work) → IsServedBy work → TellsBy now work how → IsNext (added work how)
  next_added None served tells = (tt, run.sound)
  next_added (Some w) served tells = go w.stage refl
    where
      go : (stage : Stage) → w.stage ≡ stage → IsNext (added_at w.request w.stage how)
      go Gathering is = let P : Stage → Type 0 = λ st. IsNext (added_at w.request st how) in subst P (sym is) (tt, run.sound)
      go Judged is = let P : Stage → Type 0 = λ st. IsNext (added_at w.request st how) in subst P (sym is) (next_placed w.request how served (tells is))
      go Committed is = let P : Stage → Type 0 = λ st. IsNext (added_at w.request st how) in subst P (sym is) (tt, run.sound)

  -- no request comes in
  served_judged : (w : Work) → IsServed w.request → IsServed (judged needs_of s.order w).request
  served_judged w served = go (list_any (is_stale s.order w.second) w.seen)
    where
      go : (b : Bool) → IsServed (cond b (record { request = w.request; stage = Gathering; second = true; seen = []; rest = needs_of w.request }) (record w { stage = Judged })).request
      go true = served
      go false = served

  served_gathered : (w : Work) (rest : List Need) → IsServed w.request → IsServed (gathered needs_of s.order w rest).request
  served_gathered w [] served = served_judged w served
  served_gathered w (need ∷ rest) served = served

  served_worked : (w : Work) (stage : Stage) → IsServed w.request → IsServedBy (worked needs_of s.order w stage)
  served_worked w Gathering served = served_gathered w w.rest served
  served_worked w Judged served = served
  served_worked w Committed served = tt

  served_moved : (left : List Request) (work : Option Work) → AllServed left → IsServedBy work
      → AllServed (moved needs_of s.order left work).left × IsServedBy (moved needs_of s.order left work).work
  served_moved [] None lefts works = (tt, tt)
  served_moved (request ∷ left) None lefts works = (lefts.1, lefts.0)
  served_moved left (Some w) lefts works = (lefts, served_worked w w.stage works)

  pub run_acted : (i : ℕ) (p : Party) → slice_get s.parties i ≡ Some p → may_go s.parties p.left p.work ≡ true → TellsBy now p.work how
      → IsRun start (acted needs_of s i p how)
  run_acted i p at_i may tells =
      let served = served_at s.parties i p at_i run.served in
      let next = next_added p.work served.1 tells in
      record {
        orderly = acts_orderly needs_of s how run.orderly i p at_i may (may_finish p.work served.1 tells);
        told = told_more start s.order (added p.work how) run.told next.0;
        sound = let P : List Deed → Type 0 = IsSound in subst P (sym (after_more start s.order (added p.work how))) next.1;
        served = served_set s.parties i (moved needs_of s.order p.left p.work) run.served (served_moved p.left p.work served.0 served.1);
      }

  run_acts : (i : ℕ) (found : Option Party) → slice_get s.parties i ≡ found → TellsAt now found how → IsRun start (acts needs_of s i how found)
  run_acts i None at_i tells = run
  run_acts i (Some p) at_i tells = go (may_go s.parties p.left p.work) refl
    where
      go : (may : Bool) → may_go s.parties p.left p.work ≡ may → IsRun start (cond may (acted needs_of s i p how) s)
      go true may = run_acted i p at_i may tells
      go false may = run

  pub run_event : (i : ℕ) → TellsAt now (slice_get s.parties i) how → IsRun start (event needs_of s i how)
  run_event i tells = run_acts i (slice_get s.parties i) refl tells

-- after every list of events
pub run_events : (start : List Deed) (s : State) (es : List Event) → IsRun start s → AllTell start s es → IsRun start (events s es)
run_events start s [] run tell = run
run_events start s (e ∷ es) run tell = run_events start (event needs_of s e.party e.how) es (run_event start s run e.how e.party tell.0) tell.1

-- ---- at first

begun_at : (requests : List (List Request)) (i : ℕ) (p : Party) → slice_get (map idle requests) i ≡ Some p → p.work ≡ None
begun_at [] i p at_i = absurd cc
begun_at (left ∷ requests) zero p at_i = ap (λ (x : Party). x.work) (sym (some_is at_i))
begun_at (left ∷ requests) (suc i) p at_i = begun_at requests i p at_i

pub run_begins : (start : List Deed) (requests : List (List Request)) → IsSound start → AllServedIn requests → IsRun start (beginning requests)
run_begins start requests sound served = record {
  orderly = record {
    each = λ i p at_i. let P : Option Work → Type 0 = AtHand needs_of [] in subst P (sym (begun_at requests i p at_i)) tt;
    alone = λ lock i j p q at_i at_j has other. absurd (let none : owns_by lock None ≡ true = ap (owns_by lock) (sym (begun_at requests i p at_i)) ∙ has in cc);
  };
  told = tt;
  sound = sound;
  served = go requests served;
}
  where
    go : (requests : List (List Request)) → AllServedIn requests → AreServed (map idle requests)
    go [] served = tt
    go (left ∷ requests) served = (served.0, tt, go requests served.1)
