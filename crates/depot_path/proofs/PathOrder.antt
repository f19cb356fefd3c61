-- The order of paths is one, and what decides it.
use Rattle.std.proofs.Common.{◌≡◌, ◌≢◌, ℕ, ◌≤◌, Bool, true, false, List, [], ◌∷◌, ◌++◌, length, drop, slice_index, refl, sym, ap, ◌∙◌, arith}
use Rattle.std.specs.Prelude.{◌==◌}
use Rattle.std.specs.Cmp.{ranked}
use Rattle.std.specs.Cmp.Lexicographic.{slice_cmp}
use Rattle.std.specs.Ordering.{nat_cmp, ordering_then}
use Rattle.std.specs.declared.cmp.Ordering.{Ordering}
use Rattle.std.specs.declared.cmp.Ordering.TheVariants.{Less, Equal, Greater}
use Rattle.std.proofs.lemmas.Bool.{eq-eqb, eqb-true}
use Rattle.depot_path.specs.Order.{path_cmp}
use Rattle.depot_path.specs.Path.{escaped, printed}
use Rattle.depot_path.proofs.Units.{Mark, Plain, At, Hash, Star, SmallStar, Percent, IsMark, IsPlain, source, IsMarkOf, mark_of, mark_is}

-- ---- the first printed byte that differs decides

true_false : (let b : Bool = true in b) ≡ false → ⊥
true_false e = absurd cc

once_more : (o x : Ordering) → ordering_then o x ≡ ordering_then (ordering_then o Equal) x
once_more Less x = refl
once_more Equal x = refl
once_more Greater x = refl

settled : (o x y z : Ordering) → o ≢ Equal → ordering_then o x ≡ ordering_then (ordering_then o y) z
settled Less x y z h = refl
settled Equal x y z h = absurd (h refl)
settled Greater x y z h = refl

apart : (b : ℕ) → IsPlain b → nat_cmp b 0x25 ≢ Equal
apart b h e = absurd (true_false (sym (eq-eqb b 0x25 (ranked b 0x25 Equal (sym e))) ∙ h.no_percent))

apart_back : (b : ℕ) → IsPlain b → nat_cmp 0x25 b ≢ Equal
apart_back b h e = absurd (true_false (sym (eq-eqb b 0x25 (sym (ranked 0x25 b Equal (sym e)))) ∙ h.no_percent))

cmp_marks : (m n : Mark) → IsMark m → IsMark n → (s t : List ℕ) →
    slice_cmp nat_cmp (source m ++ s) (source n ++ t) ≡ ordering_then (slice_cmp nat_cmp (source m) (source n)) (slice_cmp nat_cmp s t)
cmp_marks (Plain b) (Plain c) h k s t = once_more (nat_cmp b c) (slice_cmp nat_cmp s t)
cmp_marks (Plain b) At h k s t = settled (nat_cmp b 0x25) _ _ _ (apart b h)
cmp_marks At (Plain b) h k s t = settled (nat_cmp 0x25 b) _ _ _ (apart_back b k)
cmp_marks At At h k s t = refl
cmp_marks At Hash h k s t = refl
cmp_marks At Star h k s t = refl
cmp_marks At SmallStar h k s t = refl
cmp_marks At Percent h k s t = refl
cmp_marks (Plain b) Hash h k s t = settled (nat_cmp b 0x25) _ _ _ (apart b h)
cmp_marks Hash (Plain b) h k s t = settled (nat_cmp 0x25 b) _ _ _ (apart_back b k)
cmp_marks Hash At h k s t = refl
cmp_marks Hash Hash h k s t = refl
cmp_marks Hash Star h k s t = refl
cmp_marks Hash SmallStar h k s t = refl
cmp_marks Hash Percent h k s t = refl
cmp_marks (Plain b) Star h k s t = settled (nat_cmp b 0x25) _ _ _ (apart b h)
cmp_marks Star (Plain b) h k s t = settled (nat_cmp 0x25 b) _ _ _ (apart_back b k)
cmp_marks Star At h k s t = refl
cmp_marks Star Hash h k s t = refl
cmp_marks Star Star h k s t = refl
cmp_marks Star SmallStar h k s t = refl
cmp_marks Star Percent h k s t = refl
cmp_marks (Plain b) SmallStar h k s t = settled (nat_cmp b 0x25) _ _ _ (apart b h)
cmp_marks SmallStar (Plain b) h k s t = settled (nat_cmp 0x25 b) _ _ _ (apart_back b k)
cmp_marks SmallStar At h k s t = refl
cmp_marks SmallStar Hash h k s t = refl
cmp_marks SmallStar Star h k s t = refl
cmp_marks SmallStar SmallStar h k s t = refl
cmp_marks SmallStar Percent h k s t = refl
cmp_marks (Plain b) Percent h k s t = settled (nat_cmp b 0x25) _ _ _ (apart b h)
cmp_marks Percent (Plain b) h k s t = settled (nat_cmp 0x25 b) _ _ _ (apart_back b k)
cmp_marks Percent At h k s t = refl
cmp_marks Percent Hash h k s t = refl
cmp_marks Percent Star h k s t = refl
cmp_marks Percent SmallStar h k s t = refl
cmp_marks Percent Percent h k s t = refl

cmp_escaped : (x y : ℕ) (s t : List ℕ) →
    slice_cmp nat_cmp (escaped x ++ s) (escaped y ++ t) ≡ ordering_then (slice_cmp nat_cmp (escaped x) (escaped y)) (slice_cmp nat_cmp s t)
cmp_escaped x y s t =
    let m : IsMarkOf x (mark_of x) = mark_is x in
    let n : IsMarkOf y (mark_of y) = mark_is y in
    ap (λ r. slice_cmp nat_cmp (r ++ s) (escaped y ++ t)) (sym m.source_is)
    ∙ ap (λ r. slice_cmp nat_cmp (source (mark_of x) ++ s) (r ++ t)) (sym n.source_is)
    ∙ cmp_marks (mark_of x) (mark_of y) m.is n.is s t
    ∙ ap (λ r. ordering_then (slice_cmp nat_cmp r (source (mark_of y))) (slice_cmp nat_cmp s t)) m.source_is
    ∙ ap (λ r. ordering_then (slice_cmp nat_cmp (escaped x) r) (slice_cmp nat_cmp s t)) n.source_is

decides : (o x : Ordering) → o ≢ Equal → ordering_then o x ≡ o
decides Less x h = refl
decides Equal x h = absurd (h refl)
decides Greater x h = refl

abbrev first_order : List ℕ → List ℕ → Ordering
first_order left right = slice_cmp nat_cmp (escaped (slice_index left 0)) (escaped (slice_index right 0))

pub goes_on : (left right : List ℕ) → 1 ≤ length left → 1 ≤ length right → first_order left right ≡ Equal → path_cmp left right ≡ path_cmp (drop 1 left) (drop 1 right)
goes_on [] right h k e = absurd (omega arith)
goes_on (x ∷ xs) [] h k e = absurd (omega arith)
goes_on (x ∷ xs) (y ∷ ys) h k e = cmp_escaped x y (printed xs) (printed ys) ∙ ap (λ o. ordering_then o (path_cmp xs ys)) e

pub differs : (left right : List ℕ) → 1 ≤ length left → 1 ≤ length right → first_order left right ≢ Equal → path_cmp left right ≡ first_order left right
differs [] right h k e = absurd (omega arith)
differs (x ∷ xs) [] h k e = absurd (omega arith)
differs (x ∷ xs) (y ∷ ys) h k e = cmp_escaped x y (printed xs) (printed ys) ∙ decides (first_order (x ∷ xs) (y ∷ ys)) (path_cmp xs ys) e

printed_some : (x : ℕ) (m : Mark) (s : List ℕ) → slice_cmp nat_cmp [] (source m ++ s) ≡ Less
printed_some x (Plain b) s = refl
printed_some x At s = refl
printed_some x Hash s = refl
printed_some x Star s = refl
printed_some x SmallStar s = refl
printed_some x Percent s = refl

printed_more : (m : Mark) (s : List ℕ) → slice_cmp nat_cmp (source m ++ s) [] ≡ Greater
printed_more (Plain b) s = refl
printed_more At s = refl
printed_more Hash s = refl
printed_more Star s = refl
printed_more SmallStar s = refl
printed_more Percent s = refl

pub ends_first : (right : List ℕ) → 1 ≤ length right → path_cmp [] right ≡ Less
ends_first [] h = absurd (omega arith)
ends_first (y ∷ ys) h = let n : IsMarkOf y (mark_of y) = mark_is y in ap (λ r. slice_cmp nat_cmp [] (r ++ printed ys)) (sym n.source_is) ∙ printed_some y (mark_of y) (printed ys)

pub goes_further : (left : List ℕ) → 1 ≤ length left → path_cmp left [] ≡ Greater
goes_further [] h = absurd (omega arith)
goes_further (x ∷ xs) h = let m : IsMarkOf x (mark_of x) = mark_is x in ap (λ r. slice_cmp nat_cmp (r ++ printed xs) []) (sym m.source_is) ∙ printed_more (mark_of x) (printed xs)

at_least_one : (text : List ℕ) → (length text == 0) ≡ false → 1 ≤ length text
at_least_one [] e = absurd (true_false e)
at_least_one (x ∷ xs) e = omega arith

pub none_left : (left right : List ℕ) → (length left == 0) ≡ false → (length right == 0) ≡ true → path_cmp left right ≡ Greater
none_left left [] h k = goes_further left (at_least_one left h)
none_left left (y ∷ ys) h k = absurd (omega (arith, eqb-true (length (y ∷ ys)) 0 k))

pub some_left : (left right : List ℕ) → (length left == 0) ≡ true → (length right == 0) ≡ false → path_cmp left right ≡ Less
some_left [] right h k = ends_first right (at_least_one right k)
some_left (x ∷ xs) right h k = absurd (omega (arith, eqb-true (length (x ∷ xs)) 0 h))
