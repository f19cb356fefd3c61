-- Texts in the order of bytes: those that begin alike stand together.
use Rattle.std.proofs.Common.{◌≡◌, ℕ, Bool, true, false, List, [], ◌∷◌, ◌++◌, refl, sym, ◌∙◌, arith}
use Rattle.std.specs.Prelude.{◌&&◌, nat_eq}
use Rattle.std.specs.Cmp.{nat_cmp_is}
use Rattle.std.specs.Cmp.Lexicographic.{slice_cmp}
use Rattle.std.specs.Ordering.{nat_cmp, ordering_then, is_lt, is_gt}
use Rattle.std.specs.declared.cmp.Ordering.{Ordering}
use Rattle.std.specs.declared.cmp.Ordering.TheVariants.{Less, Equal, Greater}
use Rattle.std.proofs.lemmas.Bool.{true≢false, false≢true}
use Rattle.std.proofs.lemmas.Bool.Decides.{nat_tests, Decides-eqb}
use Rattle.depot_rows.specs.depot_path.Bytes.{begins_with}
use Rattle.depot_rows.proofs.Keys.{number-self}

abbrev pub text_cmp : List ℕ → List ℕ → Ordering
text_cmp = slice_cmp nat_cmp

number_is : (m n : ℕ) → nat_cmp m n ≡ Equal → m ≡ n
number_is m n e = grind (arith, nat_tests)

number_self : (n : ℕ) → nat_cmp n n ≡ Equal
number_self n = sym (nat_cmp_is n n Equal refl)

pub text_self : (a : List ℕ) → text_cmp a a ≡ Equal
text_self [] = refl
text_self (x ∷ a) = (λ i. ordering_then (number_self x i) (text_self a i))

text_is : (a b : List ℕ) → text_cmp a b ≡ Equal → a ≡ b
text_is [] [] e = refl
text_is [] (y ∷ b) e = absurd cc
text_is (x ∷ a) [] e = absurd cc
text_is (x ∷ a) (y ∷ b) e = go (nat_cmp x y) refl e (text_is a b)
  where
    go : (o : Ordering) → nat_cmp x y ≡ o → ordering_then o (text_cmp a b) ≡ Equal → (text_cmp a b ≡ Equal → a ≡ b) → x ∷ a ≡ y ∷ b
    go Less k f rest = absurd cc
    go Equal k f rest = λ i. number_is x y k i ∷ rest f i
    go Greater k f rest = absurd cc

-- ---- texts that begin alike

starts : (x c : ℕ) (b q : List ℕ) → begins_with (x ∷ q) (c ∷ b) ≡ true → (c ≡ x) × (begins_with q b ≡ true)
starts x c b q e = go (nat_eq c x) refl e
  where
    go : (t : Bool) → nat_eq c x ≡ t → (t && begins_with q b) ≡ true → (c ≡ x) × (begins_with q b ≡ true)
    go true k f = ((Decides-eqb c x).0 k, f)
    go false k f = absurd (false≢true f)

-- a text isn't below one with which it begins
pub not_below : (q b : List ℕ) → begins_with q b ≡ true → is_lt (text_cmp q b) ≡ false
not_below [] [] e = refl
not_below (x ∷ q) [] e = refl
not_below [] (c ∷ b) e = absurd (false≢true e)
not_below (x ∷ q) (c ∷ b) e =
    let h = starts x c b q e in
    (λ i. is_lt (ordering_then (nat_cmp x (h.0 i)) (text_cmp q b))) ∙ (λ i. is_lt (ordering_then (number_self x i) (text_cmp q b))) ∙ not_below q b h.1

-- a text at or above the beginning of another one, and at or below that one, begins so too
pub middle : (y b q : List ℕ) → begins_with q b ≡ true → is_lt (text_cmp y b) ≡ false → is_gt (text_cmp y q) ≡ false → begins_with y b ≡ true
middle [] [] q e low high = refl
middle (z ∷ y) [] q e low high = refl
middle y (c ∷ b) [] e low high = absurd (false≢true e)
middle [] (c ∷ b) (x ∷ q) e low high = absurd (true≢false low)
middle (z ∷ y) (c ∷ b) (x ∷ q) e low high =
    let h = starts x c b q e in
    go (nat_cmp z c) refl low ((λ i. is_gt (ordering_then (nat_cmp z (h.0 i)) (text_cmp y q))) ∙ high) (middle y b q h.1)
  where
    go : (o : Ordering) → nat_cmp z c ≡ o → is_lt (ordering_then o (text_cmp y b)) ≡ false → is_gt (ordering_then o (text_cmp y q)) ≡ false
        → (is_lt (text_cmp y b) ≡ false → is_gt (text_cmp y q) ≡ false → begins_with y b ≡ true) → (nat_eq c z && begins_with y b) ≡ true
    go Less k l f rest = absurd (true≢false l)
    go Equal k l f rest = λ i. (Decides-eqb c z).1 (sym (number_is z c k)) i && rest l f i
    go Greater k l f rest = absurd (true≢false f)

-- ---- parts of an order

-- a text that is at or above another one, and below it or at it with more
pub lead : (a b : List ℕ) (r s : Ordering) → is_lt (ordering_then (text_cmp a b) r) ≡ false → ordering_then (text_cmp a b) s ≡ Less
    → (a ≡ b) × (is_lt r ≡ false) × (s ≡ Less)
lead a b r s = go (text_cmp a b) refl
  where
    go : (o : Ordering) → text_cmp a b ≡ o → is_lt (ordering_then o r) ≡ false → ordering_then o s ≡ Less → (a ≡ b) × (is_lt r ≡ false) × (s ≡ Less)
    go Less e p q = absurd (true≢false p)
    go Equal e p q = (text_is a b e, p, q)
    go Greater e p q = absurd cc

-- ---- names of two parts

begins_alone : (text : List ℕ) → begins_with text [] ≡ true
begins_alone [] = refl
begins_alone (b ∷ text) = refl

-- a name of two parts begins with the first one and a space
pub begins_front : (a b : List ℕ) → begins_with (a ++ 0x20 ∷ b) (a ++ 0x20 ∷ []) ≡ true
begins_front [] b = begins_alone b
begins_front (x ∷ a) b = λ i. number-self x i && begins_front a b i
