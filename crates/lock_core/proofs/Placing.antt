-- What one more place leaves of the parties: who looked at a table that it changes, and goes through the set still, is stale.
use Rattle.std.proofs.Common.{◌≡◌, ℕ, ◌≤◌, Bool, true, false, not, List, [], ◌∷◌, ◌++◌, length, map, take, drop, Option, Some, None, refl, sym, ap, ◌∙◌}
use Rattle.std.specs.Prelude.{slice_get, suc, ◌&&◌, ◌||◌, option_map}
use Rattle.std.specs.List.{list_any}
use Rattle.std.proofs.lemmas.List.{drop-append-le}
use Rattle.std.proofs.lemmas.List.Folds.{list_any-append}
use Rattle.depot_rows.specs.depot_model.Tables as sets
use Rattle.depot_rows.specs.depot_model.Tables.{needs_of}
use Rattle.depot_rows.specs.depot_model.declared.lock.LockId.{LockId}
use Rattle.lock_machine.specs.Machine.{Seen, Commit, guards, is_owned, is_touched, is_stale}
use Rattle.lock_machine.specs.Machine as model
use Rattle.lock_machine.specs.Orderly.{AllLast, IsAtHand, AtHand}
use Rattle.lock_machine.specs.declared.stage.Stage.{Stage}
use Rattle.lock_machine.proofs.Orderly.{changes_lock}
use Rattle.lock_core.specs.Core.{AreShown}
use Rattle.lock_core.specs.Finished.{marked_party, marked_parties}
use Rattle.lock_core.specs.Parties.{IsShownBy, IsShown}
use Rattle.command_needs.specs.Sets.{locks_in, need_in}
use Rattle.lock_core.specs.Works.{IsWorkShown, looked_at, looked_behind, marked}
use Rattle.lock_core.specs.declared.party.Party.{Party}
use Rattle.command_needs.specs.declared.needs.Needs.{Needs}
use Rattle.lock_core.specs.declared.work.Work.{Work}

-- ---- what one more place touches

touched_once : (order : List Commit) (c : Commit) (s : Seen) → s.places ≤ length order → is_touched (order ++ c ∷ []) s ≡ (is_touched order s || (guards c.changed s.need.lock || false))
touched_once order c s h =
    ap (list_any (changes_lock s.need.lock)) (drop-append-le s.places order (c ∷ []) h) ∙ list_any-append (changes_lock s.need.lock) (drop s.places order) (c ∷ [])

regrouped : (n a b r l : Bool) → ((n && (a || (b || false))) || (r || l)) ≡ (((n && a) || r) || ((n && b) || l))
regrouped false a b r l = refl
regrouped true true b r l = refl
regrouped true false true true l = refl
regrouped true false true false l = refl
regrouped true false false r l = refl

heads : (needs : Needs) (x : Seen) (seen : List Seen) (y : LockId) (xs : List LockId) → map (λ (s : Seen). s.need) (x ∷ seen) ≡ map (need_in needs) (y ∷ xs)
    → (x.need ≡ need_in needs y) × (map (λ (s : Seen). s.need) seen ≡ map (need_in needs) xs)
heads needs x seen y xs e = (cc, cc)

stale_more : (needs : Needs) (order : List Commit) (c : Commit) (stage : Stage) (second : Bool) (seen : List Seen) (xs : List LockId) → map (λ (s : Seen). s.need) seen ≡ map (need_in needs) xs → AllLast order stage second seen
    → list_any (is_stale (order ++ c ∷ []) second) seen ≡ (list_any (is_stale order second) seen || list_any (looked_behind needs second c.changed) xs)
stale_more needs order c stage second [] [] e last = refl
stale_more needs order c stage second [] (x ∷ xs) e last = absurd cc
stale_more needs order c stage second (s ∷ seen) [] e last = absurd cc
stale_more needs order c stage second (s ∷ seen) (x ∷ xs) e last =
    let parts = heads needs s seen x xs e in
    let looked : (not (is_owned second s) && guards c.changed s.need.lock) ≡ looked_behind needs second c.changed x =
    ap (λ (n : sets.Need). not (second || n.writes) && guards c.changed n.lock) parts.0 in
    (λ i. (not (is_owned second s) && touched_once order c s last.0.within i) || stale_more needs order c stage second seen xs parts.1 last.1 i)
    ∙ (regrouped (not (is_owned second s)) (is_touched order s) (guards c.changed s.need.lock) (list_any (is_stale order second) seen) (list_any (looked_behind needs second c.changed) xs)
    ∙ (λ i. (is_stale order second s || list_any (is_stale order second) seen) || (looked i || list_any (looked_behind needs second c.changed) xs)))

-- ---- the parties after the place

module _ (order : List Commit) (c : Commit) where
  work_after : (w : Work) (v : model.Work) → IsWorkShown order w v → IsAtHand needs_of order v → IsWorkShown (order ++ c ∷ []) (marked c.changed w) v
  work_after w v h hand =
      let looked : looked_at c.changed w ≡ list_any (looked_behind w.needs v.second c.changed) (take w.done (locks_in w.needs)) = ap (λ b. list_any (looked_behind w.needs b c.changed) (take w.done (locks_in w.needs))) h.second in
      record {
        request = h.request;
        stage = h.stage;
        second = h.second;
        set = h.set;
        seen = h.seen;
        rest = h.rest;
        stale = λ g. (λ i. h.stale g i || looked i) ∙ sym (stale_more w.needs order c v.stage v.second v.seen (take w.done (locks_in w.needs)) h.seen hand.last);
      }

  party_after : (p : Party) (q : model.Party) → IsShown order p q → AtHand needs_of order q.work → IsShown (order ++ c ∷ []) (marked_party c.changed p) q
  party_after p q h hand = record { fresh = h.fresh; left_is = h.left_is; work_is = go p.work q.work h.work_is hand }
    where
      go : (work : Option Work) (its : Option model.Work) → IsShownBy order work its → AtHand needs_of order its → IsShownBy (order ++ c ∷ []) (option_map (marked c.changed) work) its
      go None None shown hand = tt
      go None (Some v) shown hand = shown
      go (Some w) None shown hand = shown
      go (Some w) (Some v) shown hand = work_after w v shown hand

  pub all_after : (ps : List Party) (qs : List model.Party) → AreShown order ps qs → ((j : ℕ) (q : model.Party) → slice_get qs j ≡ Some q → AtHand needs_of order q.work)
      → AreShown (order ++ c ∷ []) (marked_parties c.changed ps) qs
  all_after [] [] all hands = tt
  all_after [] (q ∷ qs) all hands = all
  all_after (p ∷ ps) [] all hands = all
  all_after (p ∷ ps) (q ∷ qs) all hands = (party_after p q all.0 (hands 0 q refl), all_after ps qs all.1 (λ j x at. hands (suc j) x at))
