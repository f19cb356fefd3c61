-- Tests of numbers.
use Rattle.std.proofs.Common.{◌≡◌, ℕ, Bool, true, false, refl, sym, ap, ◌∙◌}
use Rattle.std.specs.Prelude.{◌==◌}
use Rattle.depot_rows.proofs.Keys.{number-is, number-self}

pub same_test : (a b : ℕ) → a ≡ b → (a == b) ≡ true
same_test a b e = ap (λ (x : ℕ). a == x) (sym e) ∙ number-self a

pub apart_test : (a b : ℕ) → (a ≡ b → ⊥) → (a == b) ≡ false
apart_test a b apart = go (a == b) refl
  where
    go : (t : Bool) → (a == b) ≡ t → t ≡ false
    go true e = absurd (apart (number-is a b e))
    go false e = refl
