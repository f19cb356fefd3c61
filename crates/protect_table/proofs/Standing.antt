-- How what stands of a need follows from the last lines.
use Rattle.std.proofs.Common.{◌≡◌, ℕ, zero, suc, ◌+◌, ◌<◌, ◌≤◌, Bool, true, false, List, [], ◌∷◌, length, take, get_or, Some, None, refl, sym, ap, ◌∙◌, add-one, arith}
use Rattle.std.specs.Prelude.{◌&&◌, ◌||◌, not}
use Rattle.std.specs.List.{list_any}
use Rattle.std.proofs.lemmas.List.Folds.{list_any_more}
use Rattle.std.proofs.lemmas.List.{take_all}
use Rattle.protect_table.specs.Rights.{stands, granted, verdict, is_none}
use Rattle.protect_table.specs.declared.line.ProtectLine.{ProtectLine}

abbrev Test : Type 0
Test = ProtectLine → Bool

first_bools : (g d : Bool) → ((g && true) || false) ≡ (g || (not d && false))
first_bools true d = refl
first_bools false true = refl
first_bools false false = refl

more_bools : (a n g d s : Bool) → ((a && not (n || d)) || (g || (not d && s))) ≡ (g || (not d && ((a && not n) || s)))
more_bools true true true true s = refl
more_bools true true true false s = refl
more_bools true true false true s = refl
more_bools true true false false s = refl
more_bools true false true true s = refl
more_bools true false true false s = refl
more_bools true false false true s = refl
more_bools true false false false s = refl
more_bools false n true true s = refl
more_bools false n true false s = refl
more_bools false n false true s = refl
more_bools false n false false s = refl

any_next : (test : Test) (lines : List ProtectLine) (k : ℕ) (d : ProtectLine) → k < length lines → list_any test (take (suc k) lines) ≡ (list_any test (take k lines) || test (get_or lines k d))
any_next test lines k d low = ap (λ j. list_any test (take j lines)) (sym (add-one k)) ∙ list_any_more test lines k d low

-- one line more
pub stands_more : (g d : Test) (lines : List ProtectLine) (k : ℕ) (x : ProtectLine) → k < length lines →
    stands g d (take (suc k) lines) ≡ (g (get_or lines k x) || (not (d (get_or lines k x)) && stands g d (take k lines)))
stands_more g d [] k x low = absurd (omega arith)
stands_more g d (y ∷ lines) zero x low = first_bools (g y) (d y)
stands_more g d (y ∷ lines) (suc k) x low =
    let below : k < length lines = omega arith in
    ap (λ n. (g y && not n) || stands g d (take (suc k) lines)) (any_next d lines k x below)
    ∙ ap (λ s. (g y && not (list_any d (take k lines) || d (get_or lines k x))) || s) (stands_more g d lines k x below)
    ∙ more_bools (g y) (list_any d (take k lines)) (g (get_or lines k x)) (d (get_or lines k x)) (stands g d (take k lines))

-- no line from one on decides
pub record Undecided (g d : Test) (lines : List ProtectLine) (at : ℕ) : Type 0 where
  pub within : at ≤ length lines
  pub open_yet : stands g d lines ≡ stands g d (take at lines)

pub undecided : (g d : Test) (lines : List ProtectLine) (at : ℕ) → at ≡ length lines → Undecided g d lines at
undecided g d lines at e = record { within = omega (arith, e); open_yet = ap (stands g d) (sym (take_all at lines (omega (arith, e)))) }

none_bools : (g d s : Bool) → verdict g d ≡ None → (g || (not d && s)) ≡ s
none_bools true d s e = absurd cc
none_bools false true s e = absurd cc
none_bools false false s e = refl

some_bools : (g d s r : Bool) → verdict g d ≡ Some r → (g || (not d && s)) ≡ r
some_bools true d s r e = cc
some_bools false true s r e = cc
some_bools false false s r e = absurd cc

here : (g d : Test) (lines : List ProtectLine) (k at : ℕ) (x : ProtectLine) → at ≡ k + 1 → Undecided g d lines at →
    stands g d lines ≡ (g (get_or lines k x) || (not (d (get_or lines k x)) && stands g d (take k lines)))
here g d lines k at x e h =
    let next : at ≡ suc k = omega (arith, e) in
    h.open_yet ∙ ap (λ j. stands g d (take j lines)) next ∙ stands_more g d lines k x (omega (arith, h.within, e))

pub undecided_more : (g d : Test) (lines : List ProtectLine) (k at : ℕ) (x : ProtectLine) → at ≡ k + 1 → Undecided g d lines at →
    verdict (g (get_or lines k x)) (d (get_or lines k x)) ≡ None → Undecided g d lines k
undecided_more g d lines k at x e h still = record {
  within = omega (arith, h.within, e);
  open_yet = here g d lines k at x e h ∙ none_bools (g (get_or lines k x)) (d (get_or lines k x)) (stands g d (take k lines)) still;
}

some_lines : (g d : Test) (lines : List ProtectLine) → 1 ≤ length lines → granted g d lines ≡ stands g d lines
some_lines g d [] long = absurd (omega arith)
some_lines g d (y ∷ lines) long = refl

pub decided : (g d : Test) (lines : List ProtectLine) (k at : ℕ) (x : ProtectLine) (r : Bool) → at ≡ k + 1 → Undecided g d lines at →
    verdict (g (get_or lines k x)) (d (get_or lines k x)) ≡ Some r → granted g d lines ≡ r
decided g d lines k at x r e h told =
    some_lines g d lines (omega (arith, h.within, e)) ∙ here g d lines k at x e h
    ∙ some_bools (g (get_or lines k x)) (d (get_or lines k x)) (stands g d (take k lines)) r told

pub nothing_decides : (g d : Test) (lines : List ProtectLine) (at : ℕ) → at ≡ 0 → Undecided g d lines at → granted g d lines ≡ is_none lines
nothing_decides g d [] at e h = refl
nothing_decides g d (y ∷ lines) at e h = h.open_yet ∙ ap (λ j. stands g d (take j (y ∷ lines))) e
