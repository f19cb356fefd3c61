-- What an order's places say of the archive, with one place more, and where no further one touches its lane.
use Rattle.std.proofs.Common.{◌≡◌, ◌≤◌, ◌+◌, ◌&&◌, ℕ, Bool, true, false, not, cond, List, [], ◌∷◌, ◌++◌, map, refl, sym, ap, ◌∙◌, append_assoc, append-nil, arith}
use Rattle.std.specs.Prelude.{count_by, if◌then◌else◌}
use Rattle.std.specs.List.{AllByRecursion}
use Rattle.std.proofs.lemmas.List.Sums.{sum_by-append, sum_by_push}
use Rattle.depot_rows.specs.depot_model.declared.order.Place.{Place}
use Rattle.locked_tables.specs.Known.{GoesOnWithout}
use Rattle.locked_tables.specs.Taken.{archive_lane, place_of}
use Rattle.locked_tables.specs.declared.taken.Taken.{Taken}
use Rattle.order_words.specs.Lanes.{has_lane}
use Rattle.outside_api.specs.Count.{HasRisen, counted}
use Rattle.session_loop.specs.Served.{fault_count}
use Rattle.shared_depot.specs.Stored.{is_lost, is_unwritten, stores_of}

abbrev Spares : Taken → Type 0
Spares taken = has_lane taken.lanes archive_lane ≡ false

-- ---- contents

pub stores_append : (xs ys : List Taken) → stores_of (xs ++ ys) ≡ stores_of xs ++ stores_of ys
stores_append [] ys = refl
stores_append (x ∷ xs) ys =
    let own = if has_lane x.lanes archive_lane then x.stores else [] in
    ap (λ (l : List (List ℕ)). own ++ l) (stores_append xs ys) ∙ sym (append_assoc own (stores_of xs) (stores_of ys))

stores_none : (order : List Taken) → AllByRecursion Spares order → stores_of order ≡ []
stores_none [] all = refl
stores_none (taken ∷ order) all = ap (λ (b : Bool). (if b then taken.stores else []) ++ stores_of order) all.0 ∙ stores_none order all.1

pub stores_kept : (known order : List Taken) → GoesOnWithout archive_lane known order → stores_of order ≡ stores_of known
stores_kept known order on =
    ap stores_of on.parts
    ∙ (stores_append known on.behind
    ∙ (ap (λ (l : List (List ℕ)). stores_of known ++ l) (stores_none on.behind on.untouched)
    ∙ append-nil (stores_of known)))

-- one place more
pub stores_touched : (order : List Taken) (entry : Taken) → has_lane entry.lanes archive_lane ≡ true → stores_of (order ++ entry ∷ []) ≡ stores_of order ++ entry.stores
stores_touched order entry is =
    stores_append order (entry ∷ [])
    ∙ (ap (λ (b : Bool). stores_of order ++ ((if b then entry.stores else []) ++ [])) is
    ∙ ap (λ (l : List (List ℕ)). stores_of order ++ l) (append-nil entry.stores))

pub stores_spared : (order : List Taken) (entry : Taken) → has_lane entry.lanes archive_lane ≡ false → stores_of (order ++ entry ∷ []) ≡ stores_of order
stores_spared order entry is =
    stores_append order (entry ∷ [])
    ∙ (ap (λ (b : Bool). stores_of order ++ ((if b then entry.stores else []) ++ [])) is
    ∙ append-nil (stores_of order))

-- ---- faults

pub count_append : {X : Type 0} (test : X → Bool) (xs ys : List X) → count_by test (xs ++ ys) ≡ count_by test xs + count_by test ys
count_append {X} test xs ys = sum_by-append (λ (x : X). cond (test x) 1 0) xs ys

pub count_one : (test : Taken → Bool) (order : List Taken) (entry : Taken) → count_by test (order ++ entry ∷ []) ≡ count_by test order + cond (test entry) 1 0
count_one test order entry = sum_by_push (λ (taken : Taken). cond (test taken) 1 0) order entry

pub count_first : {X : Type 0} (test : X → Bool) (x : X) (xs : List X) → count_by test (x ∷ xs) ≡ cond (test x) 1 0 + count_by test xs
count_first test x xs = let all = count_append test (x ∷ []) xs in omega (arith, all)

never : (b : Bool) → b && false ≡ false
never true = refl
never false = refl

pub spared_not_lost : (entry : Taken) → has_lane entry.lanes archive_lane ≡ false → is_lost entry ≡ false
spared_not_lost entry is = ap (λ (b : Bool). entry.fault && (b && entry.lost)) is ∙ never entry.fault

-- where the journal's disk failed the place is that of a fault
unwritten_fails : (entry : Taken) → is_unwritten entry ≡ true → entry.fault ≡ true
unwritten_fails entry is = go entry.fault (not (has_lane entry.lanes archive_lane && entry.lost)) is
  where
    go : (fault other : Bool) → fault && other ≡ true → fault ≡ true
    go true other both = refl
    go false other both = both

-- so it is where the archive's did
pub lost_fails : (entry : Taken) → is_lost entry ≡ true → entry.fault ≡ true
lost_fails entry is = go entry.fault (has_lane entry.lanes archive_lane && entry.lost) is
  where
    go : (fault other : Bool) → fault && other ≡ true → fault ≡ true
    go true other both = refl
    go false other both = both

-- where the archive's lane is touched, and the journal's disk failed, it wasn't the archive's
unwritten_kept : (entry : Taken) → has_lane entry.lanes archive_lane ≡ true → is_unwritten entry ≡ true → entry.lost ≡ false
unwritten_kept entry touches is = go entry.fault (has_lane entry.lanes archive_lane) entry.lost touches is
  where
    go : (fault touched lost : Bool) → touched ≡ true → fault && not (touched && lost) ≡ true → lost ≡ false
    go true true true here both = sym both
    go true true false here both = refl
    go true false lost here both = absurd cc
    go false touched lost here both = absurd cc

-- so it failed there, and the archive's didn't; without the archive's lane that one never does
pub unwritten_only : (held : Bool) (entry : Taken) → has_lane entry.lanes archive_lane ≡ held → (held ≡ false → entry.lost ≡ false) → is_unwritten entry ≡ true → (entry.fault ≡ true) × (entry.lost ≡ false)
unwritten_only true entry touches kept failed = (unwritten_fails entry failed, unwritten_kept entry touches failed)
unwritten_only false entry touches kept failed = (unwritten_fails entry failed, kept refl)

-- where it was, the entry says so
pub lost_of : (entry : Taken) → is_lost entry ≡ true → entry.lost ≡ true
lost_of entry is = go entry.fault (has_lane entry.lanes archive_lane) entry.lost is
  where
    go : (fault touched lost : Bool) → fault && (touched && lost) ≡ true → lost ≡ true
    go true true lost all = all
    go true false lost all = absurd cc
    go false touched lost all = absurd cc

-- a place that touches the archive's lane just where its disk failed isn't one at which the journal's did
pub written_so : (entry : Taken) → has_lane entry.lanes archive_lane ≡ entry.fault → entry.lost ≡ entry.fault → is_unwritten entry ≡ false
written_so entry touches lost = (λ k. entry.fault && not (touches k && lost k)) ∙ go entry.fault
  where
    go : (failed : Bool) → failed && not (failed && failed) ≡ false
    go true = refl
    go false = refl

-- at a fault it is lost
pub lost_so : (entry : Taken) → has_lane entry.lanes archive_lane ≡ true → entry.fault ≡ true → entry.lost ≡ true → is_lost entry ≡ true
lost_so entry touches fault lost = λ k. fault k && (touches k && lost k)

none_lost : (order : List Taken) → AllByRecursion Spares order → count_by is_lost order ≡ 0
none_lost [] all = refl
none_lost (taken ∷ order) all =
    let rest = none_lost order all.1 in
    let first = count_first is_lost taken order in
    let here = ap (λ (b : Bool). let n : ℕ = cond b 1 0 in n) (spared_not_lost taken all.0) in
    omega (arith, rest, first, here)

pub lost_kept : (known order : List Taken) → GoesOnWithout archive_lane known order → count_by is_lost order ≡ count_by is_lost known
lost_kept known order on =
    let all = ap (count_by is_lost) on.parts ∙ count_append is_lost known on.behind in
    let none = none_lost on.behind on.untouched in
    omega (arith, all, none)

either_disk : (fault lost : Bool) → cond fault 1 0 ≡ cond (fault && not lost) 1 0 + cond (fault && lost) 1 0
either_disk true true = refl
either_disk true false = refl
either_disk false lost = refl

-- each fault is of one of the two disks
pub all_faults : (order : List Taken) → fault_count (map place_of order) ≡ count_by is_unwritten order + count_by is_lost order
all_faults [] = refl
all_faults (taken ∷ order) =
    let rest = all_faults order in
    let all = count_first (λ (place : Place). place.fault) (place_of taken) (map place_of order) in
    let unwritten = count_first is_unwritten taken order in
    let lost = count_first is_lost taken order in
    let here = either_disk taken.fault (has_lane taken.lanes archive_lane && taken.lost) in
    omega (arith, rest, all, unwritten, lost, here)

-- one place more, at which a count rose if its disk failed
pub count_caused : (count before mid now : ℕ) (failed : Bool) → counted count before ≤ mid → mid ≤ now → (failed ≡ true → HasRisen mid now) → counted (count + cond failed 1 0) before ≤ now
count_caused count before mid now true was le risen = let more = risen refl in omega (arith, was, more)
count_caused count before mid now false was le risen = omega (arith, was, le)

-- what counts no failure doesn't fail
pub never_fails : (before now : ℕ) (lost : Bool) → before ≡ 0 → now ≡ 0 → (lost ≡ true → HasRisen before now) → lost ≡ false
never_fails before now false none still risen = refl
never_fails before now true none still risen = let more = risen refl in absurd (omega (arith, none, still, more))
