-- The marks of all parties: each is one party's, so what the parties made are together as many as there are.
use Rattle.std.proofs.Common.{◌≡◌, ◌<◌, ◌≤◌, ◌+◌, ◌==◌, ◌||◌, ◌⊎◌, ◌∙◌, ℕ, zero, suc, Bool, true, false, not, cond, List, [], ◌∷◌, length, map, Some, inl, inr, refl, sym, ap, arith}
use Rattle.std.specs.Prelude.{nat_lt, slice_get}
use Rattle.std.specs.List.{AllByRecursion, list_any, sum}
use Rattle.std.proofs.lemmas.Bool.{eqb-false, eqb-true, lt-ltb, ne_eqb}
use Rattle.std.proofs.lemmas.List.Sums.{sum_by-cons}
use Rattle.order_words.specs.Seats.{Run, lane_count}
use Rattle.party_marks.specs.Known.{PassKnown}
use Rattle.party_marks.specs.Marks.{MayMark, has_marks, is_empty, marks_of}
use Rattle.party_marks.specs.declared.mark.Mark.{Mark}

-- a mark is of one of the first n parties
abbrev pub IsTheirs : ℕ → Mark → Type 0
IsTheirs n mark = (1 ≤ mark.party) × (mark.party ≤ n)

-- each mark of a run of so many parties is
pub all_theirs : (run contents_run : Run) (n : ℕ) → lane_count run ≡ 1 + n → lane_count contents_run ≡ 1 + n → (marks : List Mark) → AllByRecursion (λ (mark : Mark). MayMark run mark.party ⊎ MayMark contents_run mark.party) marks
    → AllByRecursion (IsTheirs n) marks
all_theirs run contents_run n lanes contents_lanes [] all = tt
all_theirs run contents_run n lanes contents_lanes (mark ∷ marks) all =
    (elim all.0 [ inl own ↦ within run lanes own | inr own ↦ within contents_run contents_lanes own ], all_theirs run contents_run n lanes contents_lanes marks all.1)
  where
    within : (words : Run) → lane_count words ≡ 1 + n → MayMark words mark.party → IsTheirs n mark
    within words many own = let lane = own.lane in (own.low, omega (arith, lane, many))

module _ {X : Type 0} (known : X → PassKnown) where
  -- how many of all marks are a party's
  abbrev own_count : List Mark → X → ℕ
  own_count all x = length (marks_of (known x).party all)

  abbrev added : List Mark → List X → ℕ
  added all xs = sum (map (own_count all) xs)

  -- parties have the numbers behind this one, in order
  abbrev AreFrom : ℕ → List X → Type 0
  AreFrom before xs = (i : ℕ) (x : X) → slice_get xs i ≡ Some x → (known x).party ≡ before + i + 1

  rest_from : (before : ℕ) (x : X) (xs : List X) → AreFrom before (x ∷ xs) → AreFrom (before + 1) xs
  rest_from before x xs numbered i y at = let number = numbered (suc i) y at in omega (arith, number)

  sum_of : (f : X → ℕ) (x : X) (xs : List X) → sum (map f (x ∷ xs)) ≡ f x + sum (map f xs)
  sum_of f x xs = sum_by-cons (λ (n : ℕ). n) (f x) (map f xs)

  abbrev count_if : Bool → Mark → List Mark → X → ℕ
  count_if own mark all x = length (cond own (mark ∷ marks_of (known x).party all) (marks_of (known x).party all))

  -- a mark of none of them adds nothing
  untouched : (before : ℕ) (mark : Mark) (all : List Mark) (xs : List X) → AreFrom before xs → mark.party ≤ before → added (mark ∷ all) xs ≡ added all xs
  untouched before mark all [] numbered low = refl
  untouched before mark all (x ∷ xs) numbered low =
      let number = numbered 0 x refl in
      let other = ap (λ (own : Bool). count_if own mark all x) (ne_eqb mark.party (known x).party (λ same. omega (arith, same, number, low))) in
      let rest = untouched (before + 1) mark all xs (rest_from before x xs numbered) (omega (arith, low)) in
      let now = sum_of (own_count (mark ∷ all)) x xs in
      let was = sum_of (own_count all) x xs in
      omega (arith, other, rest, now, was)

  -- one of one of them adds one
  one_more : (before : ℕ) (mark : Mark) (all : List Mark) (xs : List X) → AreFrom before xs → before < mark.party → mark.party ≤ before + length xs → added (mark ∷ all) xs ≡ added all xs + 1
  one_more before mark all [] numbered low high = absurd (omega (arith, low, high))
  one_more before mark all (x ∷ xs) numbered low high =
      let later = rest_from before x xs numbered in
      let both = go (mark.party == (known x).party) refl later (λ next. one_more (before + 1) mark all xs later next (omega (arith, high))) in
      let now = sum_of (own_count (mark ∷ all)) x xs in
      let was = sum_of (own_count all) x xs in
      omega (arith, both, now, was)
    where
      go : (own : Bool) → (mark.party == (known x).party) ≡ own → AreFrom (before + 1) xs → (before + 1 < mark.party → added (mark ∷ all) xs ≡ added all xs + 1)
          → count_if own mark all x + added (mark ∷ all) xs ≡ own_count all x + added all xs + 1
      go true is later rest =
          let number = numbered 0 x refl in
          let same = eqb-true mark.party (known x).party is in
          let others = untouched (before + 1) mark all xs later (omega (arith, number, same)) in
          omega (arith, others)
      go false is later rest =
          let number = numbered 0 x refl in
          let other = eqb-false mark.party (known x).party is in
          let others = rest (omega (arith, low, number, other)) in
          omega (arith, others)

  none_made : (xs : List X) → added [] xs ≡ 0
  none_made [] = refl
  none_made (x ∷ xs) = let here = sum_of (own_count []) x xs in let rest = none_made xs in omega (arith, here, rest)

  all_counted : (all : List Mark) (xs : List X) → AreFrom 0 xs → AllByRecursion (IsTheirs (length xs)) all → added all xs ≡ length all
  all_counted [] xs numbered among = none_made xs
  all_counted (mark ∷ all) xs numbered among =
      let low = among.0.0 in
      let high = among.0.1 in
      let one = one_more 0 mark all xs numbered (omega (arith, low)) (omega (arith, high)) in
      let rest = all_counted all xs numbered among.1 in
      omega (arith, one, rest)

  -- how many a party has made
  abbrev made : X → ℕ
  made x = length (marks_of (known x).party (known x).list)

  -- of each party all marks are known
  abbrev AreKnown : List Mark → List X → Type 0
  AreKnown all xs = AllByRecursion (λ (x : X). marks_of (known x).party all ≡ marks_of (known x).party (known x).list) xs

  all_made : (all : List Mark) (xs : List X) → AreKnown all xs → sum (map made xs) ≡ added all xs
  all_made all [] own = refl
  all_made all (x ∷ xs) own =
      let here = ap (length {A = Mark}) own.0 in
      let rest = all_made all xs own.1 in
      let now = sum_of made x xs in
      let was = sum_of (own_count all) x xs in
      omega (arith, here, rest, now, was)

  -- so together they have made as many as there are
  pub add_up : (all : List Mark) (xs : List X) → ((i : ℕ) (x : X) → slice_get xs i ≡ Some x → (known x).party ≡ i + 1) → AllByRecursion (IsTheirs (length xs)) all → AreKnown all xs → sum (map made xs) ≡ length all
  add_up all xs numbered among own = all_made all xs own ∙ all_counted all xs (λ i x at. let number = numbered i x at in omega (arith, number)) among

  some_made : (marks : List Mark) → not (is_empty marks) ≡ nat_lt 0 (length marks)
  some_made [] = refl
  some_made (mark ∷ marks) = sym (lt-ltb 0 (suc (length marks)) (omega arith))

  either_made : (a b : ℕ) → nat_lt 0 a || nat_lt 0 b ≡ nat_lt 0 (a + b)
  either_made zero b = ap (nat_lt 0) (omega arith)
  either_made (suc a) b = ap (λ (c : Bool). c || nat_lt 0 b) (lt-ltb 0 (suc a) (omega arith)) ∙ sym (lt-ltb 0 (suc a + b) (omega arith))

  -- one has made some just where they are together more than none
  pub any_made : (xs : List X) → list_any (λ (x : X). has_marks (known x).party (known x).list) xs ≡ nat_lt 0 (sum (map made xs))
  any_made [] = refl
  any_made (x ∷ xs) =
      (λ k. some_made (marks_of (known x).party (known x).list) k || any_made xs k)
      ∙ (either_made (made x) (sum (map made xs)) ∙ sym (ap (nat_lt 0) (sum_of made x xs)))
