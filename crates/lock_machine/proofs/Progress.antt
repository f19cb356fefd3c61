-- Some party may always go on.
use Rattle.std.proofs.Common.{◌≡◌, ℕ, zero, suc, ◌+◌, ◌<◌, ◌≤◌, Bool, true, not, List, [], ◌∷◌, ◌++◌, map, Option, Some, None, refl, sym, ap, subst, ◌∙◌, inl, inr, arith}
use Rattle.std.specs.Prelude.{slice_get, ◌&&◌, ◌||◌}
use Rattle.std.specs.List.{list_any}
use Rattle.std.proofs.lemmas.Bool.{and_parts}
use Rattle.depot_model.specs.Tables.{Need}
use Rattle.depot_model.specs.declared.lock.LockId.{LockId}
use Rattle.depot_model.specs.declared.lock.LockId.TheVariants.{Journal}
use Rattle.depot_model.specs.declared.request.Request.{Request}
use Rattle.lock_machine.specs.Machine.{lock_number, is_lock, Seen, Work, Party, State, is_owned, owns_seen, has_judged, owns_at, owns_by, owns, next_lock, may_go, may_work, may_party, is_enabled, is_unfinished}
use Rattle.lock_machine.specs.declared.stage.Stage.{Stage}
use Rattle.lock_machine.specs.declared.stage.Stage.TheVariants.{Gathering, Judged, Committed}
use Rattle.lock_machine.specs.Orderly.{Rises, IsAtHand, AtHand, IsOrderly}
use Rattle.lock_machine.proofs.Places.{either_true, true_or_false, found}
use Rattle.lock_machine.proofs.Orderly.{same_lock}

-- ---- locks that rise

least : (n : ℕ) (needs : List Need) → Rises n needs → n ≤ lock_number (next_lock needs)
least n [] rises = rises
least n (need ∷ needs) rises = rises.0

below_journal : (n : ℕ) (needs : List Need) → Rises n needs → n ≤ lock_number Journal
below_journal n [] rises = rises
below_journal n (need ∷ needs) rises = let here = rises.0 in let more = below_journal (suc (lock_number need.lock)) needs rises.1 in omega arith

pub next_below : (n : ℕ) (needs : List Need) → Rises n needs → lock_number (next_lock needs) ≤ lock_number Journal
next_below n [] rises = omega arith
next_below n (need ∷ needs) rises = let more = below_journal (suc (lock_number need.lock)) needs rises.1 in omega arith

rest_rises : (n : ℕ) (front rest : List Need) → Rises n (front ++ rest) → (m : ℕ) × (n ≤ m) × Rises m rest
rest_rises n [] rest rises = (n, omega arith, rises)
rest_rises n (need ∷ front) rest rises =
    let more = rest_rises (suc (lock_number need.lock)) front rest rises.1 in
    let here = rises.0 in
    let up = more.1 in
    (more.0, omega arith, more.2)

-- what is owned is below what comes next
owned_below : (second : Bool) (lock : LockId) (n : ℕ) (seen : List Seen) (rest : List Need) → Rises n (map (λ (s : Seen). s.need) seen ++ rest) → list_any (owns_seen second lock) seen ≡ true
    → lock_number lock < lock_number (next_lock rest)
owned_below second lock n [] rest rises has = absurd cc
owned_below second lock n (s ∷ seen) rest rises has =
    elim (either_true (owns_seen second lock s) (list_any (owns_seen second lock) seen) has) [
      | inl here ↦
          let is = ap lock_number (same_lock s.need.lock lock (and_parts (is_owned second s) (is_lock s.need.lock lock) here).1) in
          let more = rest_rises (suc (lock_number s.need.lock)) (map (λ (s : Seen). s.need) seen) rest rises.1 in
          let up = more.1 in
          let low = least more.0 rest more.2 in
          omega arith
      | inr later ↦ owned_below second lock (suc (lock_number s.need.lock)) seen rest rises.1 later
    ]

-- ---- some party that has a command at hand may go on

module _ (needs : Request → List Need) (rise : (request : Request) → Rises 0 (needs request)) (s : State) (orderly : IsOrderly needs s) where
  pub record Goes : Type 0 where
    pub place : ℕ
    pub party : Party
    pub work : Work
    pub stands : slice_get s.parties place ≡ Some party
    pub has : party.work ≡ Some work
    pub may : may_go s.parties party.left party.work ≡ true

  hand_of : (i : ℕ) (p : Party) (w : Work) → slice_get s.parties i ≡ Some p → p.work ≡ Some w → IsAtHand needs s.order w
  hand_of i p w at_i has = let P : Option Work → Type 0 = AtHand needs s.order in subst P has (orderly.each i p at_i)

  -- the lock that it takes next, where it gathers
  rest_of : (w : Work) → IsAtHand needs s.order w → (m : ℕ) × (0 ≤ m) × Rises m w.rest
  rest_of w h = rest_rises 0 (map (λ (s : Seen). s.need) w.seen) w.rest (let P : List Need → Type 0 = Rises 0 in subst P (sym h.set) (rise w.request))

  passed : (i : ℕ) (p : Party) (w : Work) → slice_get s.parties i ≡ Some p → p.work ≡ Some w → may_work s.parties w.stage w.rest ≡ true → Goes
  passed i p w at_i has may = record { place = i; party = p; work = w; stands = at_i; has = has; may = ap (may_go s.parties p.left) has ∙ may }

  abbrev Onward : ℕ → Type 0
  Onward fuel = (j : ℕ) (q : Party) (v : Work) → slice_get s.parties j ≡ Some q → q.work ≡ Some v → v.stage ≡ Gathering → 13 ≤ fuel + lock_number (next_lock v.rest) → Goes

  at_stage : (lock : LockId) (fuel : ℕ) → 13 ≤ suc fuel + lock_number lock → Onward fuel → (j : ℕ) (q : Party) (v : Work) (stage : Stage) → slice_get s.parties j ≡ Some q → q.work ≡ Some v → v.stage ≡ stage
      → owns_at lock v ≡ true → Goes
  at_stage lock fuel enough on j q v Judged at_j its is owned = passed j q v at_j its (ap (λ st. may_work s.parties st v.rest) is)
  at_stage lock fuel enough on j q v Committed at_j its is owned = passed j q v at_j its (ap (λ st. may_work s.parties st v.rest) is)
  at_stage lock fuel enough on j q v Gathering at_j its is owned =
      let h = hand_of j q v at_j its in
      let P : Stage → Type 0 = λ st. ((has_judged st && is_lock lock Journal) || list_any (owns_seen v.second lock) v.seen) ≡ true in
      let owned_seen : list_any (owns_seen v.second lock) v.seen ≡ true = subst P is owned in
      let Q : List Need → Type 0 = Rises 0 in
      let low = owned_below v.second lock 0 v.seen v.rest (subst Q (sym h.set) (rise v.request)) owned_seen in
      on j q v at_j its is (omega arith)

  by_owner : (lock : LockId) (fuel : ℕ) → 13 ≤ suc fuel + lock_number lock → Onward fuel → (j : ℕ) (q : Party) (work : Option Work) → slice_get s.parties j ≡ Some q → q.work ≡ work → owns_by lock work ≡ true → Goes
  by_owner lock fuel enough on j q None at_j its owned = absurd cc
  by_owner lock fuel enough on j q (Some v) at_j its owned = at_stage lock fuel enough on j q v v.stage at_j its refl owned

  goes : (fuel i : ℕ) (p : Party) (w : Work) → slice_get s.parties i ≡ Some p → p.work ≡ Some w → w.stage ≡ Gathering → 13 ≤ fuel + lock_number (next_lock w.rest) → Goes
  goes zero i p w at_i has is enough =
      let h = rest_of w (hand_of i p w at_i has) in
      let low = next_below h.0 w.rest h.2 in
      absurd (omega arith)
  goes (suc fuel) i p w at_i has is enough =
      elim (true_or_false (list_any (owns (next_lock w.rest)) s.parties)) [
        | inr free ↦ passed i p w at_i has (ap (λ st. may_work s.parties st w.rest) is ∙ ap not free)
        | inl taken ↦
            let owner = found (owns (next_lock w.rest)) s.parties taken in
            by_owner (next_lock w.rest) fuel enough (λ j q v at_j its gathers more. goes fuel j q v at_j its gathers more) owner.0 owner.1 owner.1.work owner.2 refl owner.3
      ]

  from_stage : (i : ℕ) (p : Party) (w : Work) (stage : Stage) → slice_get s.parties i ≡ Some p → p.work ≡ Some w → w.stage ≡ stage → Goes
  from_stage i p w Gathering at_i has is = goes 13 i p w at_i has is (omega arith)
  from_stage i p w Judged at_i has is = passed i p w at_i has (ap (λ st. may_work s.parties st w.rest) is)
  from_stage i p w Committed at_i has is = passed i p w at_i has (ap (λ st. may_work s.parties st w.rest) is)

  -- where some party has a command at hand, one of those that have may go on
  pub some_goes : (i : ℕ) (p : Party) (w : Work) → slice_get s.parties i ≡ Some p → p.work ≡ Some w → Goes
  some_goes i p w at_i has = from_stage i p w w.stage at_i has refl

  pub enabled_at : (i : ℕ) (p : Party) → slice_get s.parties i ≡ Some p → is_enabled s i ≡ may_go s.parties p.left p.work
  enabled_at i p at_i = ap (may_party s.parties) at_i

  -- where some party isn't finished, some event is enabled
  pub some_enabled : (i : ℕ) (p : Party) → slice_get s.parties i ≡ Some p → is_unfinished p ≡ true → (j : ℕ) × (is_enabled s j ≡ true)
  some_enabled i p at_i unfinished = by p.left p.work refl refl
    where
      by : (left : List Request) (work : Option Work) → p.left ≡ left → p.work ≡ work → (j : ℕ) × (is_enabled s j ≡ true)
      by left (Some w) lefts has = let g = some_goes i p w at_i has in (g.place, enabled_at g.place g.party g.stands ∙ g.may)
      by (request ∷ left) None lefts has = (i, enabled_at i p at_i ∙ (λ k. may_go s.parties (lefts k) (has k)))
      by [] None lefts has = absurd (let none : is_unfinished (record { left = []; work = None }) ≡ true = (let P : Party → Type 0 = λ x. is_unfinished x ≡ true in subst P (λ k. record { left = lefts k; work = has k }) unfinished) in cc)
