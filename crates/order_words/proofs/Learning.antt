-- What the order's seat makes of a note that announces nothing.
use Rattle.std.proofs.Common.{◌≡◌, ℕ, ◌+◌, ◌≤◌, ◌==◌, Bool, true, false, List, ◌∷◌, if◌then◌else◌, refl, arith}
use borrow.Author.Tests.{eqb-true}
use Rattle.order_words.specs.Seats.{checked_with}

-- a word that isn't the next place checks nothing
pub checked_with_passed : (places lane word : ℕ) (checked : List ℕ) → word ≤ places → checked_with places lane word checked ≡ checked
checked_with_passed places lane word checked passed = by_test (word == places + 1) refl
  where
    by_test : (b : Bool) → (word == places + 1) ≡ b → (if b then lane ∷ checked else checked) ≡ checked
    by_test true e = let is = eqb-true word (places + 1) e in absurd (omega arith)
    by_test false e = refl
