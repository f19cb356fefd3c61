-- The parties of the code are those of the machine: what they own, for what they wait, and what they become.
use Rattle.std.proofs.Common.{◌≡◌, ℕ, zero, suc, Bool, true, false, not, List, [], ◌∷◌, ◌++◌, map, reverse, take, drop, set, Option, Some, None, refl, sym, ap, subst, ◌∙◌, length, arith}
use Rattle.std.specs.Prelude.{slice_get, unwrap_or, ◌&&◌, ◌||◌}
use Rattle.std.specs.List.{list_any}
use Rattle.std.proofs.lemmas.Bool.{lt-ltb}
use Rattle.std.proofs.lemmas.List.{reverse-append, map-append}
use Rattle.depot_rows.specs.depot_model.Deeds.{Deed}
use Rattle.depot_rows.specs.depot_model.Tables as model_need
use Rattle.depot_rows.specs.depot_model.declared.lock.LockId.{LockId}
use Rattle.depot_rows.specs.depot_model.declared.lock.LockId.TheVariants.{Journal}
use Rattle.depot_rows.specs.depot_model.declared.request.Request.{Request}
use Rattle.lock_core.specs.Core.{wait_in, wait_at, may_wait, is_waiting, is_working, AreShown, Shows}
use Rattle.lock_machine.specs.Machine.{is_lock, Seen, Commit, State, owns_seen, has_judged, owns_at, owns_by, owns, next_lock, may_work, may_go, may_party, is_enabled, is_unfinished}
use Rattle.lock_machine.specs.Machine as model
use Rattle.lock_core.specs.Parties.{IsShownBy, IsShownAs, IsShown, holds, holds_by, waits_by, wait_of}
use Rattle.command_needs.specs.Sets.{locks_in, need_in}
use Rattle.lock_core.specs.Works.{IsWorkShown, holds_taken, holds_lock, waits_for, waits_at, next_of}
use Rattle.lock_core.specs.declared.machine.LockCore.{LockCore}
use Rattle.lock_core.specs.declared.party.Party.{Party}
use Rattle.command_needs.specs.declared.needs.Needs.{Needs}
use Rattle.lock_machine.specs.declared.stage.Stage.{Stage}
use Rattle.lock_machine.specs.declared.stage.Stage.TheVariants.{Gathering, Judged, Committed}
use Rattle.lock_core.specs.declared.work.Work.{Work}
use Rattle.lock_machine.proofs.Places.{some_is}

-- ---- locks

abbrev owned_need : Bool → LockId → model_need.Need → Bool
owned_need second lock n = (second || n.writes) && is_lock n.lock lock

any_seen : (second : Bool) (lock : LockId) (seen : List Seen) → list_any (owns_seen second lock) seen ≡ list_any (owned_need second lock) (map (λ (s : Seen). s.need) seen)
any_seen second lock [] = refl
any_seen second lock (s ∷ seen) = ap (λ b. owned_need second lock s.need || b) (any_seen second lock seen)

any_need : (needs : Needs) (second : Bool) (lock : LockId) (xs : List LockId) → list_any (holds_taken needs second lock) xs ≡ list_any (owned_need second lock) (map (need_in needs) xs)
any_need needs second lock [] = refl
any_need needs second lock (x ∷ xs) = ap (λ b. holds_taken needs second lock x || b) (any_need needs second lock xs)

no_end : (xs : List Request) (r : Request) → xs ++ r ∷ [] ≡ [] → ⊥
no_end [] r e = cc
no_end (x ∷ xs) r e = cc

or_turned : (a b : Bool) → (a || b) ≡ (b || a)
or_turned true true = refl
or_turned true false = refl
or_turned false true = refl
or_turned false false = refl

module _ (order : List Commit) where
  work_holds : (lock : LockId) (w : Work) (v : model.Work) → IsWorkShown order w v → holds_lock lock w ≡ owns_at lock v
  work_holds lock w v h =
      let taken : list_any (holds_taken w.needs w.second lock) (take w.done (locks_in w.needs)) ≡ list_any (owns_seen v.second lock) v.seen =
      any_need w.needs w.second lock (take w.done (locks_in w.needs))
      ∙ ((λ i. list_any (owned_need (h.second i) lock) (sym h.seen i)) ∙ sym (any_seen v.second lock v.seen)) in
      (λ i. taken i || (has_judged (h.stage i) && is_lock lock Journal)) ∙ or_turned (list_any (owns_seen v.second lock) v.seen) (has_judged v.stage && is_lock lock Journal)

  holds_as : (lock : LockId) (work : Option Work) (its : Option model.Work) → IsShownBy order work its → holds_by lock work ≡ owns_by lock its
  holds_as lock None None h = refl
  holds_as lock None (Some v) h = absurd h
  holds_as lock (Some w) None h = absurd h
  holds_as lock (Some w) (Some v) h = work_holds lock w v h

  any_same : (lock : LockId) (ps : List Party) (qs : List model.Party) → AreShown order ps qs → list_any (holds lock) ps ≡ list_any (owns lock) qs
  any_same lock [] [] all = refl
  any_same lock [] (q ∷ qs) all = absurd all
  any_same lock (p ∷ ps) [] all = absurd all
  any_same lock (p ∷ ps) (q ∷ qs) all = λ i. holds_as lock p.work q.work all.0.work_is i || any_same lock ps qs all.1 i

  -- a list with an item is none when turned round
  never_empty : (x : Work) (left : List Work) → map (λ (w : Work). w.request) (reverse (x ∷ left)) ≡ [] → ⊥
  never_empty x left is =
      let turned : map (λ (w : Work). w.request) (reverse left) ++ x.request ∷ [] ≡ [] =
      sym (map-append (λ (w : Work). w.request) (reverse left) (x ∷ [])) ∙ (ap (map (λ (w : Work). w.request)) (sym (reverse-append (x ∷ []) left)) ∙ is) in
      no_end (map (λ (w : Work). w.request) (reverse left)) x.request turned

  -- ---- for what they wait

  first_same : (needs : Needs) (xs : List LockId) (n : ℕ) → unwrap_or (slice_get xs n) Journal ≡ next_lock (map (need_in needs) (drop n xs))
  first_same needs [] zero = refl
  first_same needs [] (suc n) = refl
  first_same needs (x ∷ xs) zero = refl
  first_same needs (x ∷ xs) (suc n) = first_same needs xs n

  module _ (ps : List Party) (qs : List model.Party) (all : AreShown order ps qs) where
    work_may : (w : Work) (v : model.Work) (stage : Stage) → w.stage ≡ stage → IsWorkShown order w v → may_wait ps (wait_of (waits_at stage (next_of w))) ≡ may_work qs stage v.rest
    work_may w v Gathering is h =
        ap not (any_same (unwrap_or (next_of w) Journal) ps qs all)
        ∙ ap (λ lock. not (list_any (owns lock) qs)) (first_same w.needs (locks_in w.needs) w.done ∙ ap next_lock (sym h.rest))
    work_may w v Judged is h = refl
    work_may w v Committed is h = refl

    may_as : (left : List Work) (work : Option Work) (q : model.Party) → IsShownAs order left work q → may_wait ps (waits_by left work) ≡ may_go qs q.left q.work
    may_as left work q h = go left work q.left q.work h.left_is h.work_is
      where
        go : (left : List Work) (work : Option Work) (lefts : List Request) (its : Option model.Work) → map (λ (w : Work). w.request) (reverse left) ≡ lefts → IsShownBy order work its
            → may_wait ps (waits_by left work) ≡ may_go qs lefts its
        go left (Some w) lefts (Some v) is shown = work_may w v w.stage refl shown ∙ ap (λ st. may_work qs st v.rest) shown.stage
        go left (Some w) lefts None is shown = absurd shown
        go left None lefts (Some v) is shown = absurd shown
        go [] None [] None is shown = refl
        go [] None (r ∷ lefts) None is shown = absurd cc
        go (x ∷ left) None [] None is shown = absurd (never_empty x left is)
        go (x ∷ left) None (r ∷ lefts) None is shown = refl

-- ---- the party at a place

pub shown_at : (order : List Commit) (ps : List Party) (qs : List model.Party) (i : ℕ) (p : Party) → AreShown order ps qs → slice_get ps i ≡ Some p
    → (q : model.Party) × (slice_get qs i ≡ Some q) × IsShown order p q
shown_at order [] [] i p all at_i = absurd cc
shown_at order [] (q ∷ qs) i p all at_i = absurd all
shown_at order (x ∷ ps) [] i p all at_i = absurd all
shown_at order (x ∷ ps) (q ∷ qs) zero p all at_i = (q, refl, let P : Party → Type 0 = λ y. IsShown order y q in subst P (some_is at_i) all.0)
shown_at order (x ∷ ps) (q ∷ qs) (suc i) p all at_i = shown_at order ps qs i p all.1 at_i

pub shown_of : (order : List Commit) (ps : List Party) (qs : List model.Party) (i : ℕ) (q : model.Party) → AreShown order ps qs → slice_get qs i ≡ Some q
    → (p : Party) × (slice_get ps i ≡ Some p) × IsShown order p q
shown_of order [] [] i q all at_i = absurd cc
shown_of order [] (x ∷ qs) i q all at_i = absurd all
shown_of order (x ∷ ps) [] i q all at_i = absurd all
shown_of order (x ∷ ps) (y ∷ qs) zero q all at_i = (x, refl, let P : model.Party → Type 0 = λ z. IsShown order x z in subst P (some_is at_i) all.0)
shown_of order (x ∷ ps) (y ∷ qs) (suc i) q all at_i = shown_of order ps qs i q all.1 at_i

pub none_at : (order : List Commit) (ps : List Party) (qs : List model.Party) (i : ℕ) → AreShown order ps qs → slice_get ps i ≡ None → slice_get qs i ≡ None
none_at order [] [] i all at_i = refl
none_at order [] (q ∷ qs) i all at_i = absurd all
none_at order (x ∷ ps) [] i all at_i = absurd all
none_at order (x ∷ ps) (q ∷ qs) zero all at_i = absurd cc
none_at order (x ∷ ps) (q ∷ qs) (suc i) all at_i = none_at order ps qs i all.1 at_i

pub set_shown : (order : List Commit) (ps : List Party) (qs : List model.Party) (i : ℕ) (p : Party) (q : model.Party) → AreShown order ps qs → IsShown order p q
    → AreShown order (set ps i p) (set qs i q)
set_shown order [] [] i p q all one = tt
set_shown order [] (y ∷ qs) i p q all one = absurd all
set_shown order (x ∷ ps) [] i p q all one = absurd all
set_shown order (x ∷ ps) (y ∷ qs) zero p q all one = (one, all.1)
set_shown order (x ∷ ps) (y ∷ qs) (suc i) p q all one = (all.0, set_shown order ps qs i p q all.1 one)

pub set_left : (order : List Commit) (ps : List Party) (qs : List model.Party) (i : ℕ) (p : Party) (q : model.Party) → AreShown order ps qs → slice_get qs i ≡ Some q
    → IsShown order p q → AreShown order (set ps i p) qs
set_left order [] [] i p q all at_i one = tt
set_left order [] (y ∷ qs) i p q all at_i one = absurd all
set_left order (x ∷ ps) [] i p q all at_i one = absurd all
set_left order (x ∷ ps) (y ∷ qs) zero p q all at_i one = (let P : model.Party → Type 0 = λ z. IsShown order p z in subst P (sym (some_is at_i)) one, all.1)
set_left order (x ∷ ps) (y ∷ qs) (suc i) p q all at_i one = (all.0, set_left order ps qs i p q all.1 at_i one)

-- ---- which event is enabled

pub enabled_same : (start : List Deed) (core : LockCore) (s : State) (i : ℕ) → Shows start core s → may_wait core.parties.items (wait_at core.parties.items i) ≡ is_enabled s i
enabled_same start core s i shows = go (slice_get core.parties.items i) refl
  where
    go : (found : Option Party) → slice_get core.parties.items i ≡ found → may_wait core.parties.items (wait_in (slice_get core.parties.items i)) ≡ may_party s.parties (slice_get s.parties i)
    go None at_i =
        (λ k. may_wait core.parties.items (wait_in (at_i k)))
        ∙ ap (may_party s.parties) (sym (none_at s.order core.parties.items s.parties i shows.parties at_i))
    go (Some p) at_i =
        let its = shown_at s.order core.parties.items s.parties i p shows.parties at_i in
        (λ k. may_wait core.parties.items (wait_in (at_i k)))
        ∙ (may_as s.order core.parties.items s.parties shows.parties p.left.items p.work its.0 its.2 ∙ ap (may_party s.parties) (sym its.1))

-- so are those that have a command at hand or left
working_as : (order : List Commit) (left : List Work) (work : Option Work) (q : model.Party) → IsShownAs order left work q → is_waiting (waits_by left work) ≡ is_unfinished q
working_as order left work q h = go left work q.left q.work h.left_is h.work_is
  where
    waits_for_some : (wait : Option LockId) → is_waiting (wait_of wait) ≡ true
    waits_for_some None = refl
    waits_for_some (Some lock) = refl

    go : (left : List Work) (work : Option Work) (lefts : List Request) (its : Option model.Work) → map (λ (w : Work). w.request) (reverse left) ≡ lefts → IsShownBy order work its
        → is_waiting (waits_by left work) ≡ is_unfinished (record { left = lefts; work = its })
    go left (Some w) lefts (Some v) is shown = waits_for_some (waits_for w)
    go left (Some w) lefts None is shown = absurd shown
    go left None lefts (Some v) is shown = absurd shown
    go [] None [] None is shown = refl
    go [] None (r ∷ lefts) None is shown = absurd cc
    go (x ∷ left) None [] None is shown = absurd (never_empty order x left is)
    go (x ∷ left) None (r ∷ lefts) None is shown = sym (lt-ltb 0 (length (r ∷ lefts)) (omega arith))

pub unfinished_same : (order : List Commit) (ps : List Party) (qs : List model.Party) → AreShown order ps qs → list_any is_working ps ≡ list_any is_unfinished qs
unfinished_same order [] [] all = refl
unfinished_same order [] (q ∷ qs) all = absurd all
unfinished_same order (p ∷ ps) [] all = absurd all
unfinished_same order (p ∷ ps) (q ∷ qs) all = λ k. working_as order p.left.items p.work q all.0 k || unfinished_same order ps qs all.1 k

-- and how many there are
pub same_length : (order : List Commit) (ps : List Party) (qs : List model.Party) → AreShown order ps qs → length ps ≡ length qs
same_length order [] [] all = refl
same_length order [] (q ∷ qs) all = absurd all
same_length order (p ∷ ps) [] all = absurd all
same_length order (p ∷ ps) (q ∷ qs) all = ap suc (same_length order ps qs all.1)
