-- Path order is a total order, and answers `Equal` only of equal paths, since printed texts tell paths apart. The laws of `Ord` cite these.
use Rattle.std.proofs.Common.{◌≡◌, ◌≢◌, ℕ, Bool, true, false, cond, List, [], ◌∷◌, ◌++◌, take, Option, Some, None, refl, sym, ap, ◌∙◌, arith}
use Rattle.std.specs.Prelude.{◌==◌, ◌&&◌, ◌||◌, nat_eq, codes}
use Rattle.std.specs.Bool.{MatchBool}
use Rattle.std.proofs.lemmas.Bool.{eqb-true}
use Rattle.std.proofs.lemmas.Bool.Decides.{nat_tests}
use Rattle.std.specs.Cmp.{IsPartialOrder, IsTotalOrder, partial_order_from_agreeing_total}
use Rattle.std.specs.Cmp.Lexicographic.{pointwise, on_texts, told_text, texts_ties}
use Rattle.std.specs.Ordering.{eq_by_cmp}
use Rattle.depot_path.specs.Order.{path_cmp}
use Rattle.depot_path.specs.Path.{escaped, printed, escape_at, unescaped}

abbrev some_byte : ℕ → Option ℕ
some_byte b = Some b

-- a byte other than `%` begins no escape
no_escape : (c : Bool) (rest : List ℕ) → c ≡ false →
    cond (c && pointwise nat_eq (codes "40") (take 2 rest)) (some_byte 0x40)
    (cond (c && pointwise nat_eq (codes "23") (take 2 rest)) (some_byte 0x23)
    (cond ((c && pointwise nat_eq (codes "2A") (take 2 rest)) || (c && pointwise nat_eq (codes "2a") (take 2 rest))) (some_byte 0x2A)
    (cond (c && pointwise nat_eq (codes "25") (take 2 rest)) (some_byte 0x25) None)))
    ≡ None
no_escape true rest e = absurd cc
no_escape false rest e = refl

turned : (a b : ℕ) → (a == b) ≡ false → nat_eq b a ≡ false
turned a b e = grind (arith, nat_tests)

reads_plain : (b : ℕ) (rest : List ℕ) → (b == 0x25) ≡ false → unescaped 0 (b ∷ rest) ≡ b ∷ unescaped 0 rest
reads_plain b rest e = let none : escape_at (b ∷ rest) ≡ None = no_escape (nat_eq 37 b) rest (turned b 37 e) in simp none refl

-- what is printed for a byte is read as that byte
reads_byte : (b : ℕ) (rest : List ℕ) → unescaped 0 (escaped b ++ rest) ≡ b ∷ unescaped 0 rest
reads_byte b rest = go (b == 0x40) (b == 0x23) (b == 0x2A) (b == 0x25) refl refl refl refl
  where
    go : (c d e f : Bool) → (b == 0x40) ≡ c → (b == 0x23) ≡ d → (b == 0x2A) ≡ e → (b == 0x25) ≡ f →
        unescaped 0 (cond c (codes "%40") (cond d (codes "%23") (cond e (codes "%2A") (cond f (codes "%25") (b ∷ [])))) ++ rest) ≡ b ∷ unescaped 0 rest
    go true d e f h i j k = ap (λ x. x ∷ unescaped 0 rest) (sym (eqb-true b 0x40 h))
    go false true e f h i j k = ap (λ x. x ∷ unescaped 0 rest) (sym (eqb-true b 0x23 i))
    go false false true f h i j k = ap (λ x. x ∷ unescaped 0 rest) (sym (eqb-true b 0x2A j))
    go false false false true h i j k = ap (λ x. x ∷ unescaped 0 rest) (sym (eqb-true b 0x25 k))
    go false false false false h i j k = reads_plain b rest k

read_again : (path : List ℕ) → unescaped 0 (printed path) ≡ path
read_again [] = refl
read_again (b ∷ path) = reads_byte b (printed path) ∙ ap (λ p. b ∷ p) (read_again path)

injective : (x y : List ℕ) → printed x ≡ printed y → x ≡ y
injective x y e = sym (read_again x) ∙ ap (λ t. unescaped 0 t) e ∙ read_again y

same_test : (x y : List ℕ) (b c : Bool) → MatchBool b (x ≡ y) (x ≢ y) → MatchBool c (printed x ≡ printed y) (printed x ≢ printed y) → b ≡ c
same_test x y true true h k = refl
same_test x y true false h k = absurd (k (ap printed h))
same_test x y false true h k = absurd (h (injective x y k))
same_test x y false false h k = refl

pub paths_total : IsTotalOrder path_cmp
paths_total = on_texts printed

pub paths_ties : (x y : List ℕ) → pointwise nat_eq x y ≡ eq_by_cmp path_cmp x y
paths_ties x y =
    same_test x y (pointwise nat_eq x y) (pointwise nat_eq (printed x) (printed y)) (told_text x y (pointwise nat_eq x y) refl)
    (told_text (printed x) (printed y) (pointwise nat_eq (printed x) (printed y)) refl)
    ∙ texts_ties (printed x) (printed y)

pub paths_po : IsPartialOrder (pointwise nat_eq) (λ x y. Some (path_cmp x y))
paths_po = partial_order_from_agreeing_total path_cmp paths_total (λ x y. refl) paths_ties
