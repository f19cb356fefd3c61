-- Distinct texts that all stand in a list are no more than it has; and names of two words.
use Rattle.std.proofs.Common.{◌≡◌, ◌≤◌, ◌+◌, ◌⊎◌, ℕ, suc, Bool, true, false, List, [], ◌∷◌, length, inl, inr, refl, sym, ap, ◌∙◌, arith}
use Rattle.std.specs.Prelude.{◌||◌, not, filter, if◌then◌else◌}
use Rattle.std.specs.List.{list_any}
use Rattle.std.proofs.lemmas.Bool.{not-true, and_from, and_parts}
use Rattle.depot_rows.specs.depot_path.Bytes.{same}
use Rattle.depot_rows.specs.depot_model.Rules.{are_distinct}
use Rattle.depot_rows.proofs.Keys.{same-self}
use Rattle.depot_rows.proofs.Entries.{In}

-- ---- a list without one text

abbrev without : List ℕ → List (List ℕ) → List (List ℕ)
without x [] = []
without x (y ∷ ys) = if same x y then ys else y ∷ without x ys

one_less : (x : List ℕ) (ys : List (List ℕ)) → In ys x → length (without x ys) + 1 ≡ length ys
one_less x [] h = absurd h
one_less x (y ∷ ys) h = go (same x y) refl h (one_less x ys)
  where
    go : (b : Bool) → same x y ≡ b → (y ≡ x) ⊎ In ys x → (In ys x → length (without x ys) + 1 ≡ length ys) → length (if b then ys else y ∷ without x ys) + 1 ≡ suc (length ys)
    go true e k later = omega arith
    go false e (inl is) later = absurd (let f : same x y ≡ true = ap (same x) is ∙ same-self x in cc)
    go false e (inr k) later = let l = later k in omega arith

still_in : (x z : List ℕ) (ys : List (List ℕ)) → same x z ≡ false → In ys z → In (without x ys) z
still_in x z [] apart h = absurd h
still_in x z (y ∷ ys) apart h = go (same x y) refl h (still_in x z ys apart)
  where
    go : (b : Bool) → same x y ≡ b → (y ≡ z) ⊎ In ys z → (In ys z → In (without x ys) z) → In (if b then ys else y ∷ without x ys) z
    go true e (inl is) later = absurd (let f : same x z ≡ true = ap (same x) (sym is) ∙ e in cc)
    go true e (inr k) later = k
    go false e (inl is) later = inl is
    go false e (inr k) later = inr (later k)

-- each of some texts stands in a list
abbrev pub AllIn : List (List ℕ) → List (List ℕ) → Type 0
AllIn [] ys = Unit {0}
AllIn (x ∷ xs) ys = In ys x × AllIn xs ys

all_still : (x : List ℕ) (xs ys : List (List ℕ)) → list_any (same x) xs ≡ false → AllIn xs ys → AllIn xs (without x ys)
all_still x [] ys apart h = tt
all_still x (z ∷ xs) ys apart h = go (same x z) refl apart (λ g. all_still x xs ys g h.1)
  where
    go : (b : Bool) → same x z ≡ b → (b || list_any (same x) xs) ≡ false → (list_any (same x) xs ≡ false → AllIn xs (without x ys)) → AllIn (z ∷ xs) (without x ys)
    go true e f later = absurd cc
    go false e f later = (still_in x z ys e h.0, later f)

pub no_more : (xs ys : List (List ℕ)) → are_distinct xs ≡ true → AllIn xs ys → length xs ≤ length ys
no_more [] ys apart h = omega arith
no_more (x ∷ xs) ys apart h =
    let alone : list_any (same x) xs ≡ false = not-true (list_any (same x) xs) (and_parts (not (list_any (same x) xs)) (are_distinct xs) apart).0 in
    let rest = no_more xs (without x ys) (and_parts (not (list_any (same x) xs)) (are_distinct xs) apart).1 (all_still x xs ys alone h.1) in
    let less = one_less x ys h.0 in
    omega (arith, rest, less)

-- ---- parts of a list

pub parted : (test : List ℕ → Bool) (xs : List (List ℕ)) → length xs ≡ length (filter test xs) + length (filter (λ x. not (test x)) xs)
parted test [] = refl
parted test (x ∷ xs) = go (test x) (parted test xs)
  where
    go : (b : Bool) → length xs ≡ length (filter test xs) + length (filter (λ y. not (test y)) xs)
        → suc (length xs) ≡ length (if b then x ∷ filter test xs else filter test xs)
        + length (if not b then x ∷ filter (λ y. not (test y)) xs else filter (λ y. not (test y)) xs)
    go true h = omega arith
    go false h = omega arith

none_kept : (test : List ℕ → Bool) (x : List ℕ) (xs : List (List ℕ)) → list_any (same x) xs ≡ false → list_any (same x) (filter test xs) ≡ false
none_kept test x [] e = refl
none_kept test x (y ∷ ys) e = go (same x y) refl (test y) e (none_kept test x ys)
  where
    go : (b : Bool) → same x y ≡ b → (c : Bool) → (b || list_any (same x) ys) ≡ false → (list_any (same x) ys ≡ false → list_any (same x) (filter test ys) ≡ false)
        → list_any (same x) (if c then y ∷ filter test ys else filter test ys) ≡ false
    go true f c g later = absurd cc
    go false f true g later = (λ i. f i || later g i)
    go false f false g later = later g

pub distinct_kept : (test : List ℕ → Bool) (xs : List (List ℕ)) → are_distinct xs ≡ true → are_distinct (filter test xs) ≡ true
distinct_kept test [] e = refl
distinct_kept test (x ∷ xs) e =
    go (test x) (none_kept test x xs (not-true (list_any (same x) xs) (and_parts (not (list_any (same x) xs)) (are_distinct xs) e).0))
    (distinct_kept test xs (and_parts (not (list_any (same x) xs)) (are_distinct xs) e).1)
  where
    go : (b : Bool) → list_any (same x) (filter test xs) ≡ false → are_distinct (filter test xs) ≡ true
        → are_distinct (if b then x ∷ filter test xs else filter test xs) ≡ true
    go true alone later = and_from (not (list_any (same x) (filter test xs))) (are_distinct (filter test xs)) (ap not alone) later
    go false alone later = later
