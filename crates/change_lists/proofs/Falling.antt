-- The numbers of changes, the greatest first, and what is given for each.
use Rattle.std.proofs.Common.{◌≡◌, ℕ, zero, suc, ◌+◌, ◌<◌, ◌≤◌, Bool, true, false, cond, eqb, List, [], ◌∷◌, ◌++◌, length, Some, None, refl, sym, ap, ◌∙◌, subst, arith}
use Rattle.std.specs.Prelude.{◌==◌, ◌||◌, flat_map, if◌then◌else◌, max, nat_lt, reverse, slice_index_or}
use Rattle.std.specs.List.{AllPairs, dedup, dedup_from}
use Rattle.std.specs.List.Sorted.{IsSorted}
use Rattle.std.specs.Ordering.{nat_cmp}
use Rattle.std.proofs.lemmas.List.{reverse-append}
use Rattle.std.proofs.lemmas.List.Kept.{AllPairs-from_increasing}
use Rattle.std.proofs.lemmas.Map.Keys.{IsStrictlyIncreasing-dedup}
use Rattle.std.specs.Option.{option_flatten, option_or}
use Rattle.std.proofs.lemmas.Bool.{or_parts}
use Rattle.std.proofs.lemmas.Bool.Decides.{nat_tests}
use Rattle.depot_rows.specs.depot_model.Deeds as deeds
use Rattle.depot_rows.specs.depot_model.Deeds.{Deed}
use Rattle.depot_rows.specs.depot_model.Latest.{latest, when}
use Rattle.depot_rows.specs.depot_model.Numbers.{landing, pending, pending_said, top}
use Rattle.depot_rows.specs.depot_model.Steps.Changes.{number_inserted, numbers}
use Rattle.change_lists.specs.Numbers.{Falls, Under, is_among}

-- the numbers below one, the greatest first
abbrev pub down : ℕ → List ℕ
down zero = []
down (suc n) = n ∷ down n

under_more : (t u : ℕ) → t ≤ u → (ns : List ℕ) → Under t ns → Under u ns
under_more t u h [] under = tt
under_more t u h (x ∷ xs) under = let low = under.0 in (omega (arith, low), under_more t u h xs under.1)

is_equal : (n m : ℕ) → (n == m) ≡ true → n ≡ m
is_equal n m e = grind (arith, nat_tests)

not_equal : (n m : ℕ) → n < m → (n == m) ≡ false
not_equal n m h = grind (arith, nat_tests)

is_less : (m n : ℕ) → nat_lt m n ≡ true → m < n
is_less m n e = grind (arith, nat_tests)

is_more : (m n : ℕ) → (n == m) ≡ false → nat_lt m n ≡ false → n < m
is_more m n e f = grind (arith, nat_tests)

below_that : (n m : ℕ) → n < m → (m == n) ≡ false
below_that n m h = grind (arith, nat_tests)

under_none : (t : ℕ) (ns : List ℕ) → Under t ns → is_among t ns ≡ false
under_none t [] under = refl
under_none t (x ∷ xs) under = ap (λ (b : Bool). b || is_among t xs) (not_equal x t under.0) ∙ under_none t xs under.1

insert_under : (t n : ℕ) (ns : List ℕ) → n < t → Under t ns → Under t (number_inserted n ns)
insert_under t n [] h under = (h, tt)
insert_under t n (m ∷ ns) h under = go (n == m) (nat_lt m n) (insert_under t n ns h under.1)
  where
    go : (a b : Bool) → Under t (number_inserted n ns) → Under t (if a then m ∷ ns else (if b then n ∷ m ∷ ns else m ∷ number_inserted n ns))
    go true b more = under
    go false true more = (h, under)
    go false false more = (under.0, more)

insert_falls : (n : ℕ) (ns : List ℕ) → Falls ns → Falls (number_inserted n ns)
insert_falls n [] falls = (tt, tt)
insert_falls n (m ∷ ns) falls = go (n == m) refl (nat_lt m n) refl (insert_falls n ns falls.1)
  where
    go : (a : Bool) → (n == m) ≡ a → (b : Bool) → nat_lt m n ≡ b → Falls (number_inserted n ns)
        → Falls (if a then m ∷ ns else (if b then n ∷ m ∷ ns else m ∷ number_inserted n ns))
    go true e b f more = falls
    go false e true f more = let low = is_less m n f in ((low, under_more m n (omega (arith, low)) ns falls.0), falls)
    go false e false f more = (insert_under m n ns (is_more m n e f) falls.0, more)

or_swap : (a b c : Bool) → (b || (a || c)) ≡ (a || (b || c))
or_swap true true c = refl
or_swap true false c = refl
or_swap false b c = refl

or_twice : (a b : Bool) → (a || b) ≡ (a || (a || b))
or_twice true b = refl
or_twice false b = refl

in_inserted : (m n : ℕ) (ns : List ℕ) → is_among m (number_inserted n ns) ≡ ((n == m) || is_among m ns)
in_inserted m n [] = refl
in_inserted m n (x ∷ ns) = go (n == x) refl (nat_lt x n) (in_inserted m n ns)
  where
    go : (a : Bool) → (n == x) ≡ a → (b : Bool) → is_among m (number_inserted n ns) ≡ ((n == m) || is_among m ns)
        → is_among m (if a then x ∷ ns else (if b then n ∷ x ∷ ns else x ∷ number_inserted n ns)) ≡ ((n == m) || ((x == m) || is_among m ns))
    go true e b more =
        let one = is_equal n x e in
        or_twice (x == m) (is_among m ns) ∙ ap (λ (y : ℕ). (y == m) || ((x == m) || is_among m ns)) (sym one)
    go false e true more = refl
    go false e false more = ap (λ (b : Bool). (x == m) || b) more ∙ or_swap (n == m) (x == m) (is_among m ns)

pub numbers_fall : (d : List Deed) → Falls (numbers d)
numbers_fall [] = tt
numbers_fall (deeds.Pend p ∷ d) = insert_falls p.change (numbers d) (numbers_fall d)
numbers_fall (deeds.Land l ∷ d) = insert_falls l.change (numbers d) (numbers_fall d)
numbers_fall (_ ∷ d) = numbers_fall d

one_more : (n t : ℕ) → n < max n t + 1
one_more n t = omega arith

more_one : (n t : ℕ) → t + 1 ≤ max n t + 1
more_one n t = omega arith

pub numbers_under : (d : List Deed) → Under (top d + 1) (numbers d)
numbers_under [] = tt
numbers_under (deeds.Pend p ∷ d) =
    insert_under (max p.change (top d) + 1) p.change (numbers d) (one_more p.change (top d)) (under_more (top d + 1) (max p.change (top d) + 1) (more_one p.change (top d)) (numbers d) (numbers_under d))
numbers_under (deeds.Land l ∷ d) =
    insert_under (max l.change (top d) + 1) l.change (numbers d) (one_more l.change (top d)) (under_more (top d + 1) (max l.change (top d) + 1) (more_one l.change (top d)) (numbers d) (numbers_under d))
numbers_under (_ ∷ d) = numbers_under d

-- a number of which no deed speaks is of no change
pub not_pending : (d : List Deed) (m : ℕ) → is_among m (numbers d) ≡ false → pending d m ≡ None
not_pending [] m e = refl
not_pending (deeds.Pend p ∷ d) m e =
    let gone = sym (in_inserted m p.change (numbers d)) ∙ e in
    ap (λ (b : Bool). option_flatten (option_or (when b (Some p)) (latest (pending_said m) d))) (or_parts (p.change == m) (is_among m (numbers d)) gone).0
    ∙ not_pending d m (or_parts (p.change == m) (is_among m (numbers d)) gone).1
not_pending (deeds.Land l ∷ d) m e =
    let gone = sym (in_inserted m l.change (numbers d)) ∙ e in
    ap (λ (b : Bool). option_flatten (option_or (when b None) (latest (pending_said m) d))) (or_parts (l.change == m) (is_among m (numbers d)) gone).0
    ∙ not_pending d m (or_parts (l.change == m) (is_among m (numbers d)) gone).1
not_pending (deeds.Drop k ∷ d) m e = go (k == m) (not_pending d m e)
  where
    go : (b : Bool) → pending d m ≡ None → option_flatten (option_or (when b None) (latest (pending_said m) d)) ≡ None
    go true more = refl
    go false more = more
not_pending (_ ∷ d) m e = not_pending d m e

pub not_landed : (d : List Deed) (m : ℕ) → is_among m (numbers d) ≡ false → landing d m ≡ None
not_landed [] m e = refl
not_landed (deeds.Pend p ∷ d) m e =
    let gone = sym (in_inserted m p.change (numbers d)) ∙ e in
    not_landed d m (or_parts (p.change == m) (is_among m (numbers d)) gone).1
not_landed (deeds.Land l ∷ d) m e =
    let gone = sym (in_inserted m l.change (numbers d)) ∙ e in
    ap (λ (b : Bool). cond b (Some l) (landing d m)) (or_parts (l.change == m) (is_among m (numbers d)) gone).0
    ∙ not_landed d m (or_parts (l.change == m) (is_among m (numbers d)) gone).1
not_landed (_ ∷ d) m e = not_landed d m e

-- a number above all of them
abbrev top_of : List ℕ → ℕ
top_of [] = 0
top_of (x ∷ xs) = x + 1

under_top : (ns : List ℕ) → Falls ns → Under (top_of ns) ns
under_top [] falls = tt
under_top (x ∷ xs) falls = (omega arith, under_more x (x + 1) (omega arith) xs falls.0)

equal_self : (n : ℕ) → (n == n) ≡ true
equal_self n = grind (arith, nat_tests)

or_last : (a b : Bool) → b ≡ true → (a || b) ≡ true
or_last true b e = refl
or_last false b e = e

-- ---- what is given for numbers that fall is given for all numbers below one, where the others give nothing

module _ {A : Type 0} (g : ℕ → List A) where
  pub given_down : (t : ℕ) (ns : List ℕ) → Falls ns → Under t ns → ((m : ℕ) → m < t → is_among m ns ≡ false → g m ≡ []) → flat_map g ns ≡ flat_map g (down t)
  given_down zero [] falls under none = refl
  given_down zero (x ∷ xs) falls under none = let low = under.0 in absurd (omega (arith, low))
  given_down (suc t) [] falls under none =
      given_down t [] tt tt (λ m h e. none m (omega (arith, h)) e) ∙ ap (λ (l : List A). l ++ flat_map g (down t)) (sym (none t (omega arith) refl))
  given_down (suc t) (x ∷ xs) falls under none = go (x == t) refl (λ ns f u more. given_down t ns f u more)
    where
      below : (x t : ℕ) → x < suc t → (x == t) ≡ false → x < t
      below x t h e = grind (arith, nat_tests)

      go : (b : Bool) → (x == t) ≡ b
          → ((ns : List ℕ) → Falls ns → Under t ns → ((m : ℕ) → m < t → is_among m ns ≡ false → g m ≡ []) → flat_map g ns ≡ flat_map g (down t))
          → g x ++ flat_map g xs ≡ g t ++ flat_map g (down t)
      go true e again =
          let one = is_equal x t e in
          let P : ℕ → Type 0 = λ n. Under n xs in
          ap (λ (n : ℕ). g n ++ flat_map g xs) one
          ∙ ap (λ (l : List A). g t ++ l)
          (again xs falls.1 (subst P one falls.0)
          (λ m h f. none m (omega (arith, h)) (ap (λ (b : Bool). b || is_among m xs) (ap (λ (n : ℕ). n == m) one ∙ below_that m t h) ∙ f)))
      go false e again =
          let low = under.0 in
          let less : x < t = below x t low e in
          let all : Under t (x ∷ xs) = (less, under_more x t (omega (arith, less)) xs falls.0) in
          again (x ∷ xs) falls all (λ m h f. none m (omega (arith, h)) f)
          ∙ ap (λ (l : List A). l ++ flat_map g (down t)) (sym (none t (omega arith) (under_none t (x ∷ xs) all)))

  pub none_beyond : (k t : ℕ) → ((m : ℕ) → t ≤ m → g m ≡ []) → flat_map g (down (k + t)) ≡ flat_map g (down t)
  none_beyond zero t none = let same : 0 + t ≡ t = omega arith in ap (λ (n : ℕ). flat_map g (down n)) same
  none_beyond (suc k) t none =
      let same : suc k + t ≡ suc (k + t) = omega arith in
      ap (λ (n : ℕ). flat_map g (down n)) same ∙ ap (λ (l : List A). l ++ flat_map g (down (k + t))) (none (k + t) (omega arith)) ∙ none_beyond k t none

  -- for the numbers of a depot
  pub given_numbers : (d : List Deed) (t : ℕ) → ((m : ℕ) → pending d m ≡ None → landing d m ≡ None → g m ≡ []) → ((m : ℕ) → t ≤ m → g m ≡ [])
      → flat_map g (numbers d) ≡ flat_map g (down t)
  given_numbers d t none beyond =
      given_down ((top d + 1) + t) (numbers d) (numbers_fall d) (under_more (top d + 1) ((top d + 1) + t) (omega arith) (numbers d) (numbers_under d))
      (λ m h e. none m (not_pending d m e) (not_landed d m e))
      ∙ none_beyond (top d + 1) t beyond

  -- and so for any numbers that fall, where the others give nothing
  pub given_among : (d : List Deed) (ns : List ℕ) → Falls ns → ((m : ℕ) → pending d m ≡ None → landing d m ≡ None → g m ≡ []) → ((m : ℕ) → is_among m ns ≡ false → g m ≡ [])
      → flat_map g (numbers d) ≡ flat_map g ns
  given_among d ns falls none others =
      let t = top_of ns in
      let under = under_top ns falls in
      given_numbers d t none (λ m h. others m (under_none m ns (under_more t m h ns under)))
      ∙ sym (given_down t ns falls under (λ m h e. others m e))

-- what is given alike for each number
pub alike_among : {A : Type 0} (f g : ℕ → List A) (ns : List ℕ) → ((m : ℕ) → is_among m ns ≡ true → f m ≡ g m) → flat_map f ns ≡ flat_map g ns
alike_among f g [] alike = refl
alike_among f g (x ∷ xs) alike =
    (λ i. alike x (ap (λ (b : Bool). b || is_among x xs) (equal_self x)) i ++ flat_map f xs)
    ∙ ap (λ l. g x ++ l) (alike_among f g xs (λ m e. alike m (or_last (x == m) (is_among m xs) e)))

-- ---- numbers in falling order

abbrev Over : ℕ → List ℕ → Type 0
Over t [] = Unit {0}
Over t (x ∷ xs) = (t < x) × Over t xs

abbrev Rises : List ℕ → Type 0
Rises [] = Unit {0}
Rises (x ∷ xs) = Over x xs × Rises xs

over_all : (x : ℕ) (ys : List ℕ) → ((j d : ℕ) → j < length ys → x < slice_index_or ys j d) → Over x ys
over_all x [] h = tt
over_all x (y ∷ ys) h = (h 0 0 (omega arith), over_all x ys (λ j d low. h (suc j) d (omega arith)))

rises_of : (xs : List ℕ) → AllPairs (λ x y. x < y) xs → Rises xs
rises_of [] up = tt
rises_of (x ∷ xs) up = (
  over_all x xs (λ j d low. up 0 (suc j) d (omega arith) (omega arith)),
  rises_of xs (λ i j d low high. up (suc i) (suc j) d (omega arith) (omega arith)),
)

over_end : (t x : ℕ) (xs : List ℕ) → Over t xs → t < x → Over t (xs ++ x ∷ [])
over_end t x [] over h = (h, tt)
over_end t x (y ∷ xs) over h = (over.0, over_end t x xs over.1 h)

turned_cons : (x : ℕ) (xs : List ℕ) → reverse (x ∷ xs) ≡ reverse xs ++ x ∷ []
turned_cons x xs = reverse-append (x ∷ []) xs

over_turned : (t : ℕ) (xs : List ℕ) → Over t xs → Over t (reverse xs)
over_turned t [] over = tt
over_turned t (x ∷ xs) over = subst (Over t) (sym (turned_cons x xs)) (over_end t x (reverse xs) (over_turned t xs over.1) over.0)

under_end : (x y : ℕ) (ys : List ℕ) → Under y ys → x < y → Under y (ys ++ x ∷ [])
under_end x y [] under h = (h, tt)
under_end x y (z ∷ ys) under h = (under.0, under_end x y ys under.1 h)

falls_end : (x : ℕ) (ys : List ℕ) → Falls ys → Over x ys → Falls (ys ++ x ∷ [])
falls_end x [] falls over = (tt, tt)
falls_end x (y ∷ ys) falls over = (under_end x y ys falls.0 over.0, falls_end x ys falls.1 over.1)

turned_falls : (xs : List ℕ) → Rises xs → Falls (reverse xs)
turned_falls [] up = tt
turned_falls (x ∷ xs) up = subst Falls (sym (turned_cons x xs)) (falls_end x (reverse xs) (turned_falls xs up.1) (over_turned x xs up.0))

pub sorted_falls : (xs : List ℕ) → IsSorted nat_cmp xs → Falls (reverse (dedup eqb xs))
sorted_falls xs sorted = turned_falls (dedup eqb xs) (rises_of (dedup eqb xs) (AllPairs-from_increasing (dedup eqb xs) (IsStrictlyIncreasing-dedup xs sorted)))

kept_among : (n k : ℕ) (xs : List ℕ) → is_among n (dedup_from eqb k xs) ≡ ((k == n) || is_among n xs)
kept_among n k [] = refl
kept_among n k (x ∷ xs) = go (eqb x k) refl (kept_among n k xs) (kept_among n x xs)
  where
    go : (b : Bool) → eqb x k ≡ b → is_among n (dedup_from eqb k xs) ≡ ((k == n) || is_among n xs) → is_among n (dedup_from eqb x xs) ≡ ((x == n) || is_among n xs)
        → is_among n (cond b (dedup_from eqb k xs) (k ∷ dedup_from eqb x xs)) ≡ ((k == n) || ((x == n) || is_among n xs))
    go true e left more =
        let one = is_equal x k e in
        left ∙ or_twice (k == n) (is_among n xs) ∙ ap (λ (y : ℕ). (k == n) || ((y == n) || is_among n xs)) (sym one)
    go false e left more = ap (λ (b : Bool). (k == n) || b) more

-- each number is kept, and no other one
pub dedup_among : (n : ℕ) (xs : List ℕ) → is_among n (dedup eqb xs) ≡ is_among n xs
dedup_among n [] = refl
dedup_among n (k ∷ xs) = kept_among n k xs
