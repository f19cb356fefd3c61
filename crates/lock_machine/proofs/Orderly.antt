-- Each event keeps the machine orderly.
use Rattle.std.proofs.Common.{◌≡◌, ◌≢◌, ◌⊎◌, ℕ, ◌≤◌, Bool, true, false, cond, not, List, [], ◌∷◌, ◌++◌, length, map, drop, get_or, set, Option, Some, None, refl, sym, ap, subst, ◌∙◌, inl, inr, arith, append_assoc, append-nil, length-append}
use Rattle.std.specs.Prelude.{slice_get, ◌&&◌, ◌||◌}
use Rattle.std.specs.List.{list_any}
use Rattle.std.proofs.lemmas.Bool.Decides.{Decides-eqb}
use Rattle.std.proofs.lemmas.List.{drop-append-le, drop_all, map-append}
use Rattle.std.proofs.lemmas.List.Folds.{list_any-append}
use Rattle.std.proofs.lemmas.Bool.{or_left, or_right, and_parts, or_parts}
use Rattle.depot_model.specs.db_records.declared.table.TableId.TheVariants as ids
use Rattle.depot_model.specs.declared.lock.LockId.{LockId}
use Rattle.depot_model.specs.declared.lock.LockId.TheVariants.{Table, Archive, Journal}
use Rattle.depot_model.specs.declared.request.Request.{Request}
use Rattle.lock_machine.specs.Machine.{lock_number, is_lock, guards, Seen, Work, Party, Commit, State, Finish, Done, Fault, NoMemory, is_owned, owns_seen, has_judged, owns_at, owns_by, owns, is_free, may_go, is_touched, is_stale, begun, judged, gathered, worked, moved, placed, added, added_at, acted}
use Rattle.lock_machine.specs.declared.stage.Stage.{Stage}
use Rattle.lock_machine.specs.declared.stage.Stage.TheVariants.{Gathering, Judged, Committed}
use Rattle.depot_model.specs.Tables.{Need, set_locks}
use Rattle.lock_machine.specs.Orderly.{is_written, AllLast, IsAtHand, AtHand, IsOrderly, ChangesWritten, MayFinish}
use Rattle.lock_machine.proofs.Places.{set_here, set_there, one_or_apart, some_is, either_true, true_or_false, not_true, none_found}

-- ---- tests on locks

-- the lock at a place of their order
abbrev lock_at : ℕ → LockId
lock_at n = get_or set_locks n Journal

at_number : (lock : LockId) → lock_at (lock_number lock) ≡ lock
at_number (Table ids.Counter) = refl
at_number (Table ids.Group) = refl
at_number (Table ids.Protect) = refl
at_number (Table ids.Domain) = refl
at_number (Table ids.Have) = refl
at_number (Table ids.Label) = refl
at_number (Table ids.Integed) = refl
at_number (Table ids.Resolve) = refl
at_number (Table ids.Working) = refl
at_number (Table ids.Change) = refl
at_number (Table ids.Rev) = refl
at_number Archive = refl
at_number Journal = refl

pub same_lock : (a b : LockId) → is_lock a b ≡ true → a ≡ b
same_lock a b e = sym (at_number a) ∙ (ap lock_at ((Decides-eqb (lock_number a) (lock_number b)).0 e) ∙ at_number b)

pub itself : (a : LockId) → is_lock a a ≡ true
itself a = (Decides-eqb (lock_number a) (lock_number a)).1 refl

-- ---- what lasts

-- no tables have no lock
pub guards_none : (lock : LockId) → guards [] lock ≡ false
guards_none (Table table) = refl
guards_none Archive = refl
guards_none Journal = refl

abbrev pub changes_lock : LockId → Commit → Bool
changes_lock lock c = guards c.changed lock

module _ (order more : List Commit) where
  longer : (n : ℕ) → n ≤ length order → n ≤ length (order ++ more)
  longer n h = omega (arith, length-append order more)

  -- after more places none of which changed the table
  touched_more : (s : Seen) → s.places ≤ length order → list_any (changes_lock s.need.lock) more ≡ false → is_touched order s ≡ false
      → is_touched (order ++ more) s ≡ false
  touched_more s h none before =
      ap (list_any (changes_lock s.need.lock)) (drop-append-le s.places order more h)
      ∙ (list_any-append (changes_lock s.need.lock) (drop s.places order) more ∙ (ap (λ b. b || list_any (changes_lock s.need.lock) more) before ∙ none))

  -- a party that gathers: of what it owns, nothing was changed
  owned_last : (second : Bool) (seen : List Seen) → ((lock : LockId) → list_any (owns_seen second lock) seen ≡ true → list_any (changes_lock lock) more ≡ false)
      → AllLast order Gathering second seen → AllLast (order ++ more) Gathering second seen
  owned_last second [] none all = tt
  owned_last second (s ∷ seen) none all = (
    record {
      within = longer s.places all.0.within;
      untouched = λ owned.
          let here : owns_seen second s.need.lock s ≡ true = ap (λ b. b && is_lock s.need.lock s.need.lock) owned ∙ itself s.need.lock in
          touched_more s all.0.within (none s.need.lock (or_left (owns_seen second s.need.lock s) (list_any (owns_seen second s.need.lock) seen) here)) (all.0.untouched owned);
    },
    owned_last second seen (λ lock has. none lock (or_right (owns_seen second lock s) (list_any (owns_seen second lock) seen) has)) all.1,
  )

  -- one that has committed needs nothing to last
  past_last : (stage : Stage) (second other : Bool) (seen : List Seen) → AllLast order stage second seen → AllLast (order ++ more) Committed other seen
  past_last stage second other [] all = tt
  past_last stage second other (s ∷ seen) all = (
    record { within = longer s.places all.0.within; untouched = λ must. absurd cc },
    past_last stage second other seen all.1,
  )

-- one more table is seen
seen_more : (order : List Commit) (second : Bool) (seen : List Seen) (need : Need) → AllLast order Gathering second seen
    → AllLast order Gathering second (seen ++ record { need = need; places = length order } ∷ [])
seen_more order second [] need all = (
  record {
    within = omega arith;
    untouched = λ owned. ap (list_any (changes_lock need.lock)) (drop_all (length order) order (omega arith));
  },
  tt,
)
seen_more order second (s ∷ seen) need all = (all.0, seen_more order second seen need all.1)

-- nothing is stale
all_last : (order : List Commit) (second : Bool) (seen : List Seen) → list_any (is_stale order second) seen ≡ false → AllLast order Gathering second seen
    → AllLast order Judged second seen
all_last order second [] fresh all = tt
all_last order second (s ∷ seen) fresh all =
    let parts = or_parts (is_stale order second s) (list_any (is_stale order second) seen) fresh in (
      record {
        within = all.0.within;
        untouched = λ must. go (is_owned second s) refl (is_touched order s) refl parts.0 all.0.untouched;
      },
      all_last order second seen parts.1 all.1,
    )
  where
    go : (owned : Bool) → is_owned second s ≡ owned → (touched : Bool) → is_touched order s ≡ touched → is_stale order second s ≡ false
        → (is_owned second s ≡ true → is_touched order s ≡ false) → is_touched order s ≡ false
    go true owned touched is fresh last = last owned
    go false owned false is fresh last = is
    go false owned true is fresh last = absurd (let stale : is_stale order second s ≡ true = (λ i. not (owned i) && is i) in cc)

-- ---- locks that are taken

module _ (needs : Request → List Need) (parties : List Party) (order : List Commit) (lock : LockId) where
  abbrev at : Request → Stage → Bool → List Seen → List Need → Work
  at request stage second seen rest = record { request = request; stage = stage; second = second; seen = seen; rest = rest }

  -- where nothing is owned, nothing is gained
  none_owned : (request : Request) → owns_by lock (Some (begun needs request)) ≡ true → ⊥
  none_owned request has = cc

  abbrev on_stale : Request → Bool → List Seen → Bool → Work
  on_stale request second seen stale = cond stale (at request Gathering true [] (needs request)) (at request Judged second seen [])

  judged_owns : (request : Request) (second : Bool) (seen : List Seen) (stale : Bool) → list_any (is_stale order second) seen ≡ stale → is_free parties Journal ≡ true
      → owns_at lock (judged needs order (at request Gathering second seen [])) ≡ true → (list_any (owns_seen second lock) seen ≡ true) ⊎ (is_free parties lock ≡ true)
  judged_owns request second seen true is free has = absurd (let gone : owns_at lock (on_stale request second seen true) ≡ true = (let P : Bool → Type 0 = λ b. owns_at lock (on_stale request second seen b) ≡ true in subst P is has) in cc)
  judged_owns request second seen false is free has = pick (either_true (is_lock lock Journal) (list_any (owns_seen second lock) seen) (let P : Bool → Type 0 = λ b. owns_at lock (on_stale request second seen b) ≡ true in subst P is has))
    where
      pick : (is_lock lock Journal ≡ true) ⊎ (list_any (owns_seen second lock) seen ≡ true) → (list_any (owns_seen second lock) seen ≡ true) ⊎ (is_free parties lock ≡ true)
      pick (inl e) = inr (let P : LockId → Type 0 = λ l. is_free parties l ≡ true in subst P (sym (same_lock lock Journal e)) free)
      pick (inr has) = inl has

  -- a party owns after its event what it owned before, or what was free
  gained_at : (request : Request) (stage : Stage) (second : Bool) (seen : List Seen) (rest : List Need) → may_go parties [] (Some (at request stage second seen rest)) ≡ true
      → owns_by lock (worked needs order (at request stage second seen rest) stage) ≡ true → (owns_at lock (at request stage second seen rest) ≡ true) ⊎ (is_free parties lock ≡ true)
  gained_at request Gathering second seen [] may has = judged_owns request second seen (list_any (is_stale order second) seen) refl may has
  gained_at request Gathering second seen (need ∷ rest) may has =
      pick (either_true (list_any (owns_seen second lock) seen) (list_any (owns_seen second lock) (record { need = need; places = length order } ∷ []))
      (sym (list_any-append (owns_seen second lock) seen (record { need = need; places = length order } ∷ [])) ∙ has))
    where
      pick : (list_any (owns_seen second lock) seen ≡ true) ⊎ (list_any (owns_seen second lock) (record { need = need; places = length order } ∷ []) ≡ true)
          → (list_any (owns_seen second lock) seen ≡ true) ⊎ (is_free parties lock ≡ true)
      pick (inl before) = inl before
      pick (inr new) =
          let parts : owns_seen second lock (record { need = need; places = length order }) ≡ true = elim (either_true (owns_seen second lock (record { need = need; places = length order })) false new) [ inl here ↦ here | inr never ↦ absurd (cc) ] in
          let taken = and_parts (is_owned second (record { need = need; places = length order })) (is_lock need.lock lock) parts in
          inr (let P : LockId → Type 0 = λ l. is_free parties l ≡ true in subst P (same_lock need.lock lock taken.1) may)
  gained_at request Judged second seen rest may has = inl has
  gained_at request Committed second seen rest may has = absurd cc

  gained : (left : List Request) (work : Option Work) → may_go parties left work ≡ true → owns lock (moved needs order left work) ≡ true
      → (owns_by lock work ≡ true) ⊎ (is_free parties lock ≡ true)
  gained [] None may has = absurd cc
  gained (request ∷ left) None may has = absurd (none_owned request has)
  gained left (Some w) may has = gained_at w.request w.stage w.second w.seen w.rest may has

-- ---- what a party has at hand after its event

module _ (needs : Request → List Need) (order : List Commit) where
  begins : (request : Request) (second : Bool) → IsAtHand needs order (record { request = request; stage = Gathering; second = second; seen = []; rest = needs request })
  begins request second = record { set = refl; whole = λ never. absurd cc; last = tt }

  judges : (request : Request) (second : Bool) (seen : List Seen) (stale : Bool) → list_any (is_stale order second) seen ≡ stale
      → IsAtHand needs order (at needs [] order Journal request Gathering second seen [])
      → IsAtHand needs order (judged needs order (at needs [] order Journal request Gathering second seen []))
  judges request second seen true is h =
      let P : Bool → Type 0 = λ b. IsAtHand needs order (on_stale needs [] order Journal request second seen b) in subst P (sym is) (begins request true)
  judges request second seen false is h =
      let P : Bool → Type 0 = λ b. IsAtHand needs order (on_stale needs [] order Journal request second seen b) in
      subst P (sym is) (record { set = h.set; whole = λ passed. refl; last = all_last order second seen is h.last })

  gathers : (request : Request) (second : Bool) (seen : List Seen) (rest : List Need) → IsAtHand needs order (at needs [] order Journal request Gathering second seen rest)
      → IsAtHand needs order (gathered needs order (at needs [] order Journal request Gathering second seen rest) rest)
  gathers request second seen [] h = judges request second seen (list_any (is_stale order second) seen) refl h
  gathers request second seen (need ∷ rest) h = record {
    set =
        ap (λ (front : List Need). front ++ rest) (map-append (λ (s : Seen). s.need) seen (record { need = need; places = length order } ∷ []))
        ∙ (append_assoc (map (λ (s : Seen). s.need) seen) (need ∷ []) rest ∙ h.set);
    whole = λ never. absurd cc;
    last = seen_more order second seen need h.last;
  }

  same_order : (work : Option Work) → AtHand needs order work → AtHand needs (order ++ []) work
  same_order work h = let P : List Commit → Type 0 = λ o. AtHand needs o work in subst P (sym (append-nil order)) h

  worked_at_hand : (how : Finish) (request : Request) (stage : Stage) (second : Bool) (seen : List Seen) (rest : List Need)
      → IsAtHand needs order (at needs [] order Journal request stage second seen rest)
      → AtHand needs (order ++ added_at request stage how) (worked needs order (at needs [] order Journal request stage second seen rest) stage)
  worked_at_hand how request Gathering second seen rest h =
      same_order (Some (gathered needs order (at needs [] order Journal request Gathering second seen rest) rest)) (gathers request second seen rest h)
  worked_at_hand how request Judged second seen rest h = record {
    set = h.set;
    whole = h.whole;
    last = past_last order (placed request how) Judged second second seen h.last;
  }
  worked_at_hand how request Committed second seen rest h = tt

  moved_at_hand : (how : Finish) (left : List Request) (work : Option Work) → AtHand needs order work
      → AtHand needs (order ++ added work how) (moved needs order left work).work
  moved_at_hand how [] None h = tt
  moved_at_hand how (request ∷ left) None h = same_order (Some (begun needs request)) (begins request false)
  moved_at_hand how left (Some w) h = worked_at_hand how w.request w.stage w.second w.seen w.rest h

-- ---- what the others have at hand

module _ (needs : Request → List Need) where
  -- the tables that a command writes are owned once all of its set is seen
  written_owned : (second : Bool) (lock : LockId) (seen : List Seen) → is_written (map (λ (s : Seen). s.need) seen) lock ≡ true → list_any (owns_seen second lock) seen ≡ true
  written_owned second lock [] e = absurd cc
  written_owned second lock (s ∷ seen) e =
      elim (either_true (s.need.writes && is_lock s.need.lock lock) (is_written (map (λ (s : Seen). s.need) seen) lock) e) [
        | inl here ↦
            let parts = and_parts s.need.writes (is_lock s.need.lock lock) here in
            let owned : is_owned second s ≡ true = or_right second s.need.writes parts.0 in
            or_left (owns_seen second lock s) (list_any (owns_seen second lock) seen) (ap (λ b. b && is_lock s.need.lock lock) owned ∙ parts.1)
        | inr later ↦ or_right (owns_seen second lock s) (list_any (owns_seen second lock) seen) (written_owned second lock seen later)
      ]

  -- who judged owns all that it writes
  judged_writes : (order : List Commit) (lock : LockId) (w : Work) → w.stage ≡ Judged → IsAtHand needs order w → is_written (needs w.request) lock ≡ true → owns_at lock w ≡ true
  judged_writes order lock w stage h written =
      let judged_so : has_judged w.stage ≡ true = ap has_judged stage in
      let all : map (λ (s : Seen). s.need) w.seen ≡ needs w.request = sym (append-nil (map (λ (s : Seen). s.need) w.seen)) ∙ (ap (λ (r : List Need). map (λ (s : Seen). s.need) w.seen ++ r) (sym (h.whole judged_so)) ∙ h.set) in
      or_right (has_judged w.stage && is_lock lock Journal) (list_any (owns_seen w.second lock) w.seen)
      (written_owned w.second lock w.seen (ap (λ (ns : List Need). is_written ns lock) all ∙ written))

  owns_journal : (w : Work) → w.stage ≡ Judged → owns_at Journal w ≡ true
  owns_journal w stage = or_left (has_judged w.stage && is_lock Journal Journal) (list_any (owns_seen w.second Journal) w.seen) (ap (λ st. has_judged st && true) stage)

  -- no lock of one is a lock of the other
  abbrev pub AreApart : Work → Work → Type 0
  AreApart v w = (lock : LockId) → owns_at lock v ≡ true → owns_at lock w ≡ true → ⊥

  module _ (order : List Commit) (how : Finish) (v : Work) (judged_v : v.stage ≡ Judged) (hand : IsAtHand needs order v) (may : ChangesWritten needs v.request how) where
    -- a commit changes only what its party owns
    changes_own : (lock : LockId) → list_any (changes_lock lock) (placed v.request how) ≡ true → owns_at lock v ≡ true
    changes_own lock e = go how may e
      where
        go : (how : Finish) → ChangesWritten needs v.request how → list_any (changes_lock lock) (placed v.request how) ≡ true → owns_at lock v ≡ true
        go (Done changed) may e =
            judged_writes order lock v judged_v hand (may lock (elim (either_true (guards changed lock) false e) [ inl here ↦ here | inr never ↦ absurd (cc) ]))
        go Fault may e = absurd (let both : true ≡ false = sym e ∙ ap (λ b. b || false) (guards_none lock) in cc)
        go NoMemory may e = absurd cc

    other_last : (request : Request) (stage : Stage) (second : Bool) (seen : List Seen) (rest : List Need) → AreApart v (at needs [] order Journal request stage second seen rest)
        → IsAtHand needs order (at needs [] order Journal request stage second seen rest) → IsAtHand needs (order ++ placed v.request how) (at needs [] order Journal request stage second seen rest)
    other_last request Gathering second seen rest apart h = record {
      set = h.set;
      whole = h.whole;
      last = owned_last order (placed v.request how) second seen (λ lock has.
          elim (true_or_false (list_any (changes_lock lock) (placed v.request how))) [
            | inl touched ↦ absurd (apart lock (changes_own lock touched) has)
            | inr clear ↦ clear
          ]) h.last;
    }
    other_last request Judged second seen rest apart h = absurd (apart Journal (owns_journal v judged_v) refl)
    other_last request Committed second seen rest apart h = record {
      set = h.set;
      whole = h.whole;
      last = past_last order (placed v.request how) Committed second second seen h.last;
    }

  abbrev pub Apart : Option Work → Option Work → Type 0
  Apart v w = (lock : LockId) → owns_by lock v ≡ true → owns_by lock w ≡ true → ⊥

  others_at_hand : (order : List Commit) (how : Finish) (work other : Option Work) → Apart work other → MayFinish needs work how → AtHand needs order work → AtHand needs order other
      → AtHand needs (order ++ added work how) other
  others_at_hand order how None other apart may mine its = same_order needs order other its
  others_at_hand order how (Some v) None apart may mine its = tt
  others_at_hand order how (Some v) (Some w) apart may mine its = go v.stage refl
    where
      go : (stage : Stage) → v.stage ≡ stage → IsAtHand needs (order ++ added_at v.request v.stage how) w
      go Gathering is = let P : Stage → Type 0 = λ st. IsAtHand needs (order ++ added_at v.request st how) w in subst P (sym is) (same_order needs order (Some w) its)
      go Judged is =
          let P : Stage → Type 0 = λ st. IsAtHand needs (order ++ added_at v.request st how) w in
          subst P (sym is) (other_last order how v is mine (may is) w.request w.stage w.second w.seen w.rest apart its)
      go Committed is = let P : Stage → Type 0 = λ st. IsAtHand needs (order ++ added_at v.request st how) w in subst P (sym is) (same_order needs order (Some w) its)

-- ---- each event

module _ (needs : Request → List Need) (s : State) (how : Finish) (orderly : IsOrderly needs s) where
  pub acts_orderly : (i : ℕ) (p : Party) → slice_get s.parties i ≡ Some p → may_go s.parties p.left p.work ≡ true → MayFinish needs p.work how
      → IsOrderly needs (acted needs s i p how)
  acts_orderly i p at_i may mine = record {
    each = λ j q at_j. elim (one_or_apart i j) [
      | inl e ↦ here j q e at_j
      | inr other ↦ there j q other (sym (set_there s.parties i j after other) ∙ at_j)
    ];
    alone = λ lock j k q r at_j at_k owns_q owns_r. elim (one_or_apart i j) [
      | inl ej ↦ elim (one_or_apart i k) [
        | inl ek ↦ sym ej ∙ ek
        | inr ok ↦ absurd (lone lock j k q r ej ok at_j at_k owns_q owns_r)
      ]
      | inr oj ↦ elim (one_or_apart i k) [
        | inl ek ↦ absurd (lone lock k j r q ek oj at_k at_j owns_r owns_q)
        | inr ok ↦ orderly.alone lock j k q r (sym (set_there s.parties i j after oj) ∙ at_j) (sym (set_there s.parties i k after ok) ∙ at_k) owns_q owns_r
      ]
    ];
  }
    where
      after : Party
      after = moved needs s.order p.left p.work

      is_after : (j : ℕ) (q : Party) → i ≡ j → slice_get (set s.parties i after) j ≡ Some q → after ≡ q
      is_after j q e at_j = some_is (sym (set_here s.parties i p after at_i) ∙ (ap (slice_get (set s.parties i after)) e ∙ at_j))

      here : (j : ℕ) (q : Party) → i ≡ j → slice_get (set s.parties i after) j ≡ Some q → AtHand needs (s.order ++ added p.work how) q.work
      here j q e at_j =
          let P : Party → Type 0 = λ x. AtHand needs (s.order ++ added p.work how) x.work in
          subst P (is_after j q e at_j) (moved_at_hand needs s.order how p.left p.work (orderly.each i p at_i))

      there : (j : ℕ) (q : Party) → i ≢ j → slice_get s.parties j ≡ Some q → AtHand needs (s.order ++ added p.work how) q.work
      there j q other at_j =
          others_at_hand needs s.order how p.work q.work (λ lock mine its. other (orderly.alone lock i j p q at_i at_j mine its)) mine (orderly.each i p at_i) (orderly.each j q at_j)

      lone : (lock : LockId) (j k : ℕ) (q r : Party) → i ≡ j → i ≢ k → slice_get (set s.parties i after) j ≡ Some q → slice_get (set s.parties i after) k ≡ Some r
          → owns lock q ≡ true → owns lock r ≡ true → ⊥
      lone lock j k q r e other at_j at_k owns_q owns_r =
          let its : slice_get s.parties k ≡ Some r = sym (set_there s.parties i k after other) ∙ at_k in
          elim (gained needs s.parties s.order lock p.left p.work may (ap (owns lock) (is_after j q e at_j) ∙ owns_q)) [
            | inl had ↦ other (orderly.alone lock i k p r at_i its had owns_r)
            | inr free ↦ absurd (let none = none_found (owns lock) s.parties (not_true (list_any (owns lock) s.parties) free) k r its in let both : true ≡ false = sym owns_r ∙ none in cc)
          ]
