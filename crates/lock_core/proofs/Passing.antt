-- Those of a list that pass a test.
use Rattle.std.proofs.Common.{◌≡◌, ◌<◌, ◌≤◌, ℕ, zero, suc, Bool, true, false, cond, List, [], ◌∷◌, length, take, get_or, Some, None, refl, sym, ap, ◌∙◌, inl, inr, arith}
use Rattle.std.specs.Prelude.{filter, is_some, slice_get}
use Rattle.std.proofs.lemmas.Option.{slice_get_cases}

module _ {X : Type 0} (test : X → Bool) where
  -- the next one stands behind those before it
  pub stands_next : (xs : List X) (i : ℕ) (d : X) → i < length xs → test (get_or xs i d) ≡ true → slice_get (filter test xs) (length (filter test (take i xs))) ≡ Some (get_or xs i d)
  stands_next [] i d within passes = absurd (omega arith)
  stands_next (x ∷ xs) zero d within passes = ap (λ (b : Bool). slice_get (cond b (x ∷ filter test xs) (filter test xs)) 0) passes
  stands_next (x ∷ xs) (suc i) d within passes = go (test x) (stands_next xs i d (omega arith) passes)
    where
      go : (b : Bool) → slice_get (filter test xs) (length (filter test (take i xs))) ≡ Some (get_or xs i d)
          → slice_get (cond b (x ∷ filter test xs) (filter test xs)) (length (cond b (x ∷ filter test (take i xs)) (filter test (take i xs)))) ≡ Some (get_or xs i d)
      go true rest = rest
      go false rest = rest

  -- they are no more than all
  pub no_more : (xs : List X) → length (filter test xs) ≤ length xs
  no_more [] = omega arith
  no_more (x ∷ xs) = go (test x) (no_more xs)
    where
      go : (b : Bool) → length (filter test xs) ≤ length xs → length (cond b (x ∷ filter test xs) (filter test xs)) ≤ length (x ∷ xs)
      go true rest = omega arith
      go false rest = omega arith

-- behind the last there is none
pub none_past : {X : Type 0} (xs : List X) (n : ℕ) → length xs ≤ n → slice_get xs n ≡ None
none_past [] n past = refl
none_past (x ∷ xs) zero past = absurd (omega arith)
none_past (x ∷ xs) (suc n) past = none_past xs n (omega arith)

pub within_all : {X : Type 0} (xs : List X) (n : ℕ) → is_some (slice_get xs n) ≡ true → n < length xs
within_all xs n some = elim (slice_get_cases xs n).1 [
  | inl there ↦ there.1
  | inr past ↦ absurd (let both : false ≡ true = ap is_some (sym past.1) ∙ some in cc)
]
