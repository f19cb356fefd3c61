-- The last place that touches a lane.
use Rattle.std.proofs.Common.{◌≡◌, ℕ, zero, suc, ◌+◌, ◌^◌, ◌≤◌, Bool, true, false, List, [], ◌∷◌, ◌++◌, length, refl, ap, sym, ◌∙◌, subst, arith, add-one}
use mathlib.Core.Logic.{dite}
use mathlib.Core.List.{IsPrefix}
use native.Mathlib.Decide.{ℕ_discrete}
use borrow.Author.Tests.{eqb-true}
use Rattle.std.specs.Int.{bit_at}
use Rattle.std.proofs.lemmas.Nat.Bits.{bit_at-pow_other}
use Rattle.order_words.specs.Lanes.{has_lane, last_with_first, last_touch}

behind_le : (b : Bool) (n m : ℕ) → n ≤ m → last_with_first b n ≤ suc m
behind_le true zero m h = omega arith
behind_le false zero m h = omega arith
behind_le true (suc n) m h = omega arith
behind_le false (suc n) m h = omega arith

behind_rises : (b : Bool) (n m : ℕ) → n ≤ m → last_with_first b n ≤ last_with_first b m
behind_rises true zero zero h = omega arith
behind_rises true zero (suc m) h = omega arith
behind_rises true (suc n) zero h = absurd (omega arith)
behind_rises true (suc n) (suc m) h = omega arith
behind_rises false zero zero h = omega arith
behind_rises false zero (suc m) h = omega arith
behind_rises false (suc n) zero h = absurd (omega arith)
behind_rises false (suc n) (suc m) h = omega arith

behind_suc : (b : Bool) (n : ℕ) → last_with_first b (suc n) ≡ suc (suc n)
behind_suc true n = refl
behind_suc false n = refl

module _ {E : Type 0} (lanes : E → ℕ) (lane : ℕ) where
  pub last_touch_within : (es : List E) → last_touch lanes lane es ≤ length es
  last_touch_within [] = omega arith
  last_touch_within (e ∷ es) = behind_le (has_lane (lanes e) lane) (last_touch lanes lane es) (length es) (last_touch_within es)

  pub last_touch_longer : (es fs : List E) → last_touch lanes lane es ≤ last_touch lanes lane (es ++ fs)
  last_touch_longer [] fs = omega arith
  last_touch_longer (e ∷ es) fs = behind_rises (has_lane (lanes e) lane) (last_touch lanes lane es) (last_touch lanes lane (es ++ fs)) (last_touch_longer es fs)

  pub last_touch_prefix : (es fs : List E) → IsPrefix es fs → last_touch lanes lane es ≤ last_touch lanes lane fs
  last_touch_prefix es fs p = subst (λ (l : List E). last_touch lanes lane es ≤ last_touch lanes lane l) p.1 (last_touch_longer es p.0)

  touched_behind : (es : List E) (e : E) → has_lane (lanes e) lane ≡ true → last_touch lanes lane (es ++ e ∷ []) ≡ suc (length es)
  touched_behind [] e is = ap (λ (b : Bool). last_with_first b 0) is
  touched_behind (x ∷ xs) e is = ap (last_with_first (has_lane (lanes x) lane)) (touched_behind xs e is) ∙ behind_suc (has_lane (lanes x) lane) (length xs)

  -- an entry that touches the lane, behind the others, is the last
  pub last_touch_touched : (es : List E) (e : E) → has_lane (lanes e) lane ≡ true → last_touch lanes lane (es ++ e ∷ []) ≡ length es + 1
  last_touch_touched es e is = touched_behind es e is ∙ sym (add-one (length es))

  -- one that does not touch it changes nothing
  pub last_touch_passed : (es : List E) (e : E) → has_lane (lanes e) lane ≡ false → last_touch lanes lane (es ++ e ∷ []) ≡ last_touch lanes lane es
  last_touch_passed [] e is = ap (λ (b : Bool). last_with_first b 0) is
  last_touch_passed (x ∷ xs) e is = ap (last_with_first (has_lane (lanes x) lane)) (last_touch_passed xs e is)

-- a power of two has one lane
pub only_lane : (k lane : ℕ) → has_lane (2 ^ k) lane ≡ true → lane ≡ k
only_lane k lane h = dite (ℕ_discrete lane k) (λ e. e) (λ n. let none : bit_at (2 ^ k) lane ≡ 0 = bit_at-pow_other k lane n in let some : bit_at (2 ^ k) lane ≡ 1 = eqb-true (bit_at (2 ^ k) lane) 1 h in absurd (omega arith))
