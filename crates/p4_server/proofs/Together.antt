-- Lists that grow together, place by place.
use Rattle.std.proofs.Common.{◌≡◌, ℕ, zero, suc, ◌<◌, List, [], ◌∷◌, ◌++◌, length, get_or, Some, refl, sym, ap, subst, ◌∙◌, ◌⊎◌, inl, inr, arith}
use Rattle.std.specs.Prelude.{All, Any, slice_get}
use Rattle.std.proofs.lemmas.Option.{slice_get_within, slice_get-get_or, get_or_from_slice_get}

-- what is at a place of a list with one more
pub at_pushed : {X : Type 0} (xs : List X) (x y : X) (i : ℕ) → slice_get (xs ++ x ∷ []) i ≡ Some y → (slice_get xs i ≡ Some y) ⊎ ((i ≡ length xs) × (y ≡ x))
at_pushed [] x y zero e = inr (refl, cc)
at_pushed [] x y (suc i) e = absurd cc
at_pushed (first ∷ xs) x y zero e = inl e
at_pushed (first ∷ xs) x y (suc i) e = elim (at_pushed xs x y i e) [ inl h ↦ inl h | inr h ↦ inr (ap suc h.0, h.1) ]

pub pushed_before : {X : Type 0} (xs : List X) (x y : X) (i : ℕ) → i < length xs → slice_get (xs ++ x ∷ []) i ≡ Some y → slice_get xs i ≡ Some y
pushed_before xs x y i lt e = elim (at_pushed xs x y i e) [ inl h ↦ h | inr h ↦ absurd (omega (arith, lt, h.0)) ]

pub pushed_last : {X : Type 0} (xs : List X) (x y : X) (i : ℕ) → i ≡ length xs → slice_get (xs ++ x ∷ []) i ≡ Some y → y ≡ x
pushed_last xs x y i is e = elim (at_pushed xs x y i e) [ inl h ↦ absurd (let lt = slice_get_within xs i y h in omega (arith, lt, is)) | inr h ↦ h.1 ]

-- a list has something at each place below its length
pub there : {X : Type 0} (xs : List X) (i : ℕ) → i < length xs → (x : X) × (slice_get xs i ≡ Some x)
there [] i lt = absurd (omega (arith, lt))
there (x ∷ xs) zero lt = (x, refl)
there (x ∷ xs) (suc i) lt = there xs i (omega (arith, lt))

pub at_once : {X : Type 0} (xs : List X) (i : ℕ) (x y : X) → slice_get xs i ≡ Some x → slice_get xs i ≡ Some y → y ≡ x
at_once xs i x y e h = let same : Some y ≡ Some x = sym h ∙ e in cc

-- what holds of each place holds of all
pub all_of : {X : Type 0} (P : X → Type 0) (xs : List X) → ((i : ℕ) (x : X) → slice_get xs i ≡ Some x → P x) → All P xs
all_of P xs each k d lt = each k (get_or xs k d) (slice_get-get_or xs k d lt)

pub all_at : {X : Type 0} (P : X → Type 0) (xs : List X) → All P xs → (i : ℕ) (x : X) → slice_get xs i ≡ Some x → P x
all_at P xs all i x e = subst P (get_or_from_slice_get xs i x x e) (all i x (slice_get_within xs i x e))

-- what holds of a place holds of some
pub any_of : {X : Type 0} (P : X → Type 0) (xs : List X) (i : ℕ) (x : X) → slice_get xs i ≡ Some x → P x → Any P xs
any_of P xs i x e h = (i, x, slice_get_within xs i x e, get_or_from_slice_get xs i x x e, h)
