-- Places of lists.
use Rattle.std.proofs.Common.{◌≡◌, ◌≢◌, ◌⊎◌, ℕ, zero, suc, ◌+◌, ◌≤◌, List, [], ◌∷◌, drop, set, Option, Some, refl, sym, ap, subst, ◌∙◌, inl, inr, arith, length}
use Rattle.std.specs.Prelude.{slice_get}
use Rattle.std.specs.List.{AllByRecursion}
use Rattle.std.specs.Option.{IsSomeAnd}
use Rattle.std.proofs.lemmas.Option.{same_Some}

-- what stands at a place after one was set: what was set, or what stood there
pub at_set : {A : Type 0} (xs : List A) (i j : ℕ) (y z : A) → slice_get (set xs i y) j ≡ Some z → ((i ≡ j) × (z ≡ y)) ⊎ ((i ≢ j) × (slice_get xs j ≡ Some z))
at_set [] i j y z at = absurd cc
at_set (x ∷ xs) zero zero y z at = inl (refl, sym (same_Some _ _ at))
at_set (x ∷ xs) zero (suc j) y z at = inr (λ e. cc, at)
at_set (x ∷ xs) (suc i) zero y z at = inr (λ e. cc, at)
at_set (x ∷ xs) (suc i) (suc j) y z at = elim (at_set xs i j y z at) [
  | inl here ↦ inl (ap suc here.0, here.1)
  | inr there ↦ inr (λ e. there.0 (cc), there.1)
]

-- the next of those that are left
pub drop_next : {A : Type 0} (xs : List A) (n : ℕ) (y : A) (ys : List A) → drop n xs ≡ y ∷ ys → (slice_get xs n ≡ Some y) × (drop (n + 1) xs ≡ ys)
drop_next [] zero y ys e = absurd cc
drop_next [] (suc n) y ys e = absurd cc
drop_next (x ∷ xs) zero y ys e = (cc, cc)
drop_next (x ∷ xs) (suc n) y ys e =
    let more = drop_next xs n y ys e in
    let next : suc n + 1 ≡ suc (n + 1) = omega arith in
    (more.0, ap (λ (m : ℕ). drop m (x ∷ xs)) next ∙ more.1)

-- a bound that holds at a place still does once a number at one place rises
pub risen_at : (counts : List ℕ) (i j m n : ℕ) → slice_get counts i ≡ Some n → IsSomeAnd (slice_get counts j) (λ (count : ℕ). m ≤ count) → IsSomeAnd (slice_get (set counts i (n + 1)) j) (λ (count : ℕ). m ≤ count)
risen_at [] i j m n at has = absurd cc
risen_at (c ∷ counts) zero zero m n at has = let is : c ≡ n = same_Some _ _ at in omega (arith, has, is)
risen_at (c ∷ counts) zero (suc j) m n at has = has
risen_at (c ∷ counts) (suc i) zero m n at has = has
risen_at (c ∷ counts) (suc i) (suc j) m n at has = risen_at counts i j m n at has

-- the bound at a place is what stands there
pub bound_at : (counts : List ℕ) (i j m n : ℕ) → slice_get counts i ≡ Some n → j ≡ i → IsSomeAnd (slice_get counts j) (λ (count : ℕ). m ≤ count) → m ≤ n
bound_at counts i j m n at same has =
    let P : Option ℕ → Type 0 = λ found. IsSomeAnd found (λ (count : ℕ). m ≤ count) in
    subst P at (subst (λ (k : ℕ). P (slice_get counts k)) same has)

-- what stands at one place of a list that is as long as another
pub also_at : {A B : Type 0} (xs : List A) (ys : List B) (i : ℕ) (x : A) → length xs ≡ length ys → slice_get xs i ≡ Some x → (y : B) × (slice_get ys i ≡ Some y)
also_at [] ys i x same at = absurd cc
also_at (a ∷ xs) [] i x same at = absurd (omega (arith, same))
also_at (a ∷ xs) (b ∷ ys) zero x same at = (b, refl)
also_at (a ∷ xs) (b ∷ ys) (suc i) x same at = also_at xs ys i x (omega (arith, same)) at

-- what holds of all holds at a place
pub all_at : {X : Type 0} (P : X → Type 0) (xs : List X) (i : ℕ) (x : X) → AllByRecursion P xs → slice_get xs i ≡ Some x → P x
all_at P [] i x all at = absurd cc
all_at P (y ∷ xs) zero x all at = subst P (same_Some _ _ at) all.0
all_at P (y ∷ xs) (suc i) x all at = all_at P xs i x all.1 at
