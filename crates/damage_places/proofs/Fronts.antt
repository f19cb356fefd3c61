-- Two places in one list.
use Rattle.std.proofs.Common.{◌≡◌, ◌⊎◌, ◌+◌, ℕ, suc, List, [], ◌∷◌, ◌++◌, length, inl, inr, refl, sym, ap, subst, ◌∙◌, arith, append_assoc, length-append}

heads : {A : Type 0} {x y : A} {l m : List A} → x ∷ l ≡ y ∷ m → x ≡ y
heads e = cc

tails : {A : Type 0} {x y : A} {l m : List A} → x ∷ l ≡ y ∷ m → l ≡ m
tails e = cc

-- one list is the other's front, with this element behind it
abbrev pub IsBefore : {A : Type 0} → List A → A → List A → Type 0
IsBefore {A} xs x ys = (more : List A) × (ys ≡ xs ++ x ∷ more)

pub parted : {A : Type 0} (xs : List A) (x : A) (a : List A) (ys : List A) (y : A) (b : List A) → xs ++ x ∷ a ≡ ys ++ y ∷ b
    → (xs ≡ ys) ⊎ (IsBefore xs x ys ⊎ IsBefore ys y xs)
parted [] x a [] y b e = inl refl
parted [] x a (z ∷ ys) y b e = inr (inl (ys, ap (λ w. w ∷ ys) (sym (heads e))))
parted (z ∷ xs) x a [] y b e = inr (inr (xs, ap (λ w. w ∷ xs) (heads e)))
parted {A} (z ∷ xs) x a (w ∷ ys) y b e = go (parted xs x a ys y b (tails e))
  where
    one : z ≡ w
    one = heads e

    go : (xs ≡ ys) ⊎ (IsBefore xs x ys ⊎ IsBefore ys y xs) → (z ∷ xs ≡ w ∷ ys) ⊎ (IsBefore (z ∷ xs) x (w ∷ ys) ⊎ IsBefore (w ∷ ys) y (z ∷ xs))
    go (inl h) = inl (λ i. one i ∷ h i)
    go (inr (inl h)) = inr (inl (h.0, λ i. sym one i ∷ h.1 i))
    go (inr (inr h)) = inr (inr (h.0, λ i. one i ∷ h.1 i))

-- an element more at the end of a front
pub one_more : {A : Type 0} (xs : List A) (x : A) (more : List A) → (xs ++ x ∷ []) ++ more ≡ xs ++ x ∷ more
one_more xs x more = append_assoc xs (x ∷ []) more

-- bytes of which a front goes on to no more are stopped at one byte
pub stop_once : (P : List ℕ → Type 0) (f : List ℕ) (b : ℕ) (a g : List ℕ) (c : ℕ) (d : List ℕ) → f ++ b ∷ a ≡ g ++ c ∷ d → P f → P g
    → ((more : List ℕ) → P ((f ++ b ∷ []) ++ more) → ⊥) → ((more : List ℕ) → P ((g ++ c ∷ []) ++ more) → ⊥) → length a ≡ length d
stop_once P f b a g c d e goes others none never = go (parted f b a g c d e)
  where
    go : (f ≡ g) ⊎ (IsBefore f b g ⊎ IsBefore g c f) → length a ≡ length d
    go (inl h) =
        let one = ap length h in
        let two : length f + suc (length a) ≡ length g + suc (length d) = sym (length-append f (b ∷ a)) ∙ ap length e ∙ length-append g (c ∷ d) in
        omega (arith, one, two)
    go (inr (inl h)) = absurd (none h.0 (subst P (h.1 ∙ sym (one_more f b h.0)) others))
    go (inr (inr h)) = absurd (never h.0 (subst P (h.1 ∙ sym (one_more g c h.0)) goes))
