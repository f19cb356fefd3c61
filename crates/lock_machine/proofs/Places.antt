-- Places of lists.
use Rattle.std.proofs.Common.{◌≡◌, ◌≢◌, ◌⊎◌, ℕ, zero, suc, Bool, true, false, not, List, [], ◌∷◌, set, Some, refl, sym, ap, ◌∙◌, inl, inr}
use Rattle.std.specs.Prelude.{slice_get, ◌||◌}
use Rattle.std.specs.List.{list_any}
use Rattle.std.proofs.lemmas.Bool.{or_parts}

-- what stands at a place that was set, and at another
pub set_here : {A : Type 0} (xs : List A) (i : ℕ) (x y : A) → slice_get xs i ≡ Some x → slice_get (set xs i y) i ≡ Some y
set_here [] i x y e = absurd cc
set_here (z ∷ xs) zero x y e = refl
set_here (z ∷ xs) (suc i) x y e = set_here xs i x y e

pub set_there : {A : Type 0} (xs : List A) (i j : ℕ) (y : A) → i ≢ j → slice_get (set xs i y) j ≡ slice_get xs j
set_there [] i j y apart = refl
set_there (z ∷ xs) zero zero y apart = absurd (apart refl)
set_there (z ∷ xs) zero (suc j) y apart = refl
set_there (z ∷ xs) (suc i) zero y apart = refl
set_there (z ∷ xs) (suc i) (suc j) y apart = set_there xs i j y (λ e. apart (ap suc e))

-- two places are one or apart
pub one_or_apart : (i j : ℕ) → (i ≡ j) ⊎ (i ≢ j)
one_or_apart zero zero = inl refl
one_or_apart zero (suc j) = inr (λ e. cc)
one_or_apart (suc i) zero = inr (λ e. cc)
one_or_apart (suc i) (suc j) = elim (one_or_apart i j) [ inl e ↦ inl (ap suc e) | inr apart ↦ inr (λ e. apart (cc)) ]

pub some_is : {A : Type 0} {x y : A} → Some x ≡ Some y → x ≡ y
some_is e = cc

-- ---- tests

pub either_true : (a b : Bool) → (a || b) ≡ true → (a ≡ true) ⊎ (b ≡ true)
either_true true b e = inl refl
either_true false b e = inr e

pub true_or_false : (b : Bool) → (b ≡ true) ⊎ (b ≡ false)
true_or_false true = inl refl
true_or_false false = inr refl

pub not_true : (b : Bool) → not b ≡ true → b ≡ false
not_true true e = absurd cc
not_true false e = refl

-- an item that passes the test
pub found : {A : Type 0} (f : A → Bool) (xs : List A) → list_any f xs ≡ true → (i : ℕ) × (x : A) × (slice_get xs i ≡ Some x) × (f x ≡ true)
found f [] e = absurd cc
found f (x ∷ xs) e =
    elim (either_true (f x) (list_any f xs) e) [
      | inl here ↦ (0, x, refl, here)
      | inr later ↦ let rest = found f xs later in (suc rest.0, rest.1, rest.2, rest.3)
    ]

pub none_found : {A : Type 0} (f : A → Bool) (xs : List A) → list_any f xs ≡ false → (i : ℕ) (x : A) → slice_get xs i ≡ Some x → f x ≡ false
none_found f [] e i x at = absurd cc
none_found f (y ∷ xs) e zero x at = let here = or_parts (f y) (list_any f xs) e in ap f (sym (some_is at)) ∙ here.0
none_found f (y ∷ xs) e (suc i) x at = none_found f xs (or_parts (f y) (list_any f xs) e).1 i x at
