-- Texts that are apart: a sort and a pass over the sorted ones makes them so, and what begins with one of them is before what begins with a later one.
use Rattle.std.proofs.Common.{◌≡◌, ◌≤◌, ◌<◌, ℕ, suc, Bool, true, false, cond, List, [], ◌∷◌, length, get_or, refl, sym, ap, ◌∙◌, arith}
use Rattle.std.specs.Prelude.{◌&&◌, ◌||◌}
use Rattle.std.specs.Cmp.{IsTotalOrder}
use Rattle.std.specs.Cmp.Lexicographic.{slice_cmp}
use Rattle.std.specs.List.{dedup, dedup_from, list_any}
use Rattle.std.specs.List.Sorted.{IsSorted}
use Rattle.std.specs.Ordering.{is_lt, nat_cmp, ordering_reverse, ordering_then}
use Rattle.std.specs.declared.cmp.Ordering.{Ordering}
use Rattle.std.specs.declared.cmp.Ordering.TheVariants.{Less, Equal, Greater}
use Rattle.std.proofs.lemmas.Bool.{true≢false, false≢true}
use Rattle.std.proofs.lemmas.Bool.Decides.{Decides-eqb}
use Rattle.std.proofs.lemmas.Cmp.{nat_list_cmp_total}
use Rattle.std.proofs.lemmas.List.Sorted.{ranks_by, sorted_far}
use Rattle.depot_rows.specs.depot_path.Bytes.{begins_with}
use Rattle.named_files.specs.Beginnings.{AreApart, AreBehind, begins_with_one}
use Rattle.named_files.proofs.Walking.{number_is, starts, text_cmp, text_is}

order : IsTotalOrder (slice_cmp nat_cmp)
order = nat_list_cmp_total

-- ---- texts that begin with another one

begins_itself : (a : List ℕ) → begins_with a a ≡ true
begins_itself [] = refl
begins_itself (x ∷ a) = λ i. (Decides-eqb x x).1 refl i && begins_itself a i

begins_through : (u t l : List ℕ) → begins_with u t ≡ true → begins_with t l ≡ true → begins_with u l ≡ true
begins_through [] t [] a b = refl
begins_through (x ∷ u) t [] a b = refl
begins_through u [] (z ∷ l) a b = absurd (false≢true b)
begins_through [] (y ∷ t) (z ∷ l) a b = absurd (false≢true a)
begins_through (x ∷ u) (y ∷ t) (z ∷ l) a b =
    let h = starts x y t u a in
    let k = starts y z l t b in
    λ i. (Decides-eqb z x).1 (k.0 ∙ h.0) i && begins_through u t l h.1 k.1 i

-- what begins with one of two texts is before what begins with the other one, which is after the first and doesn't begin with it
ahead : (t u b c : List ℕ) → begins_with t b ≡ true → begins_with u c ≡ true → text_cmp b c ≡ Less → begins_with c b ≡ false → text_cmp t u ≡ Less
ahead t u [] [] at one less apart = absurd (true≢false apart)
ahead t u [] (y ∷ c) at one less apart = absurd (true≢false apart)
ahead t u (x ∷ b) [] at one less apart = absurd cc
ahead [] u (x ∷ b) (y ∷ c) at one less apart = absurd (false≢true at)
ahead (z ∷ t) [] (x ∷ b) (y ∷ c) at one less apart = absurd (false≢true one)
ahead (z ∷ t) (w ∷ u) (x ∷ b) (y ∷ c) at one less apart =
    let h = starts z x b t at in
    let k = starts w y c u one in
    (λ i. ordering_then (nat_cmp (sym h.0 i) (sym k.0 i)) (text_cmp t u)) ∙ go (nat_cmp x y) refl less (ahead t u b c h.1 k.1)
  where
    go : (o : Ordering) → nat_cmp x y ≡ o → ordering_then o (text_cmp b c) ≡ Less → (text_cmp b c ≡ Less → begins_with c b ≡ false → text_cmp t u ≡ Less)
        → ordering_then o (text_cmp t u) ≡ Less
    go Less e f more = refl
    go Equal e f more = more f ((λ i. sym ((Decides-eqb x y).1 (number_is x y e)) i && begins_with c b) ∙ apart)
    go Greater e f more = absurd cc

-- so before what begins with any of the texts behind
pub ahead_of_all : (b : List ℕ) (texts : List (List ℕ)) (t u : List ℕ) → AreBehind b texts → begins_with t b ≡ true → begins_with_one texts u ≡ true → text_cmp t u ≡ Less
ahead_of_all b [] t u behind at one = absurd (false≢true one)
ahead_of_all b (c ∷ texts) t u behind at one = go (begins_with u c) refl one (ahead_of_all c texts c u behind.2 (begins_itself c))
  where
    go : (s : Bool) → begins_with u c ≡ s → (s || list_any (begins_with u) texts) ≡ true → (begins_with_one texts u ≡ true → text_cmp c u ≡ Less) → text_cmp t u ≡ Less
    go true e f more = ahead t u b c at e behind.0 behind.1
    go false e f more = order.trans t c u (ahead t c b c at (begins_itself c) behind.0 behind.1) (more f)

-- ---- texts in order

-- none is before a text, and none before an earlier one
abbrev NoneBefore : List ℕ → List (List ℕ) → Type 0
NoneBefore k [] = Unit {0}
NoneBefore k (x ∷ xs) = (is_lt (text_cmp x k) ≡ false) × NoneBefore k xs

abbrev AreInOrder : List (List ℕ) → Type 0
AreInOrder [] = Unit {0}
AreInOrder (x ∷ xs) = NoneBefore x xs × AreInOrder xs

none_before : (k : List ℕ) (texts : List (List ℕ)) → ((j : ℕ) (d : List ℕ) → j < length texts → is_lt (text_cmp (get_or texts j d) k) ≡ false) → NoneBefore k texts
none_before k [] late = tt
none_before k (x ∷ xs) late = (late 0 [] (omega arith), none_before k xs (λ j d low. late (suc j) d (omega arith)))

in_order : (texts : List (List ℕ))
    → ((i j : ℕ) (d : List ℕ) → i ≤ j → j < length texts → is_lt (text_cmp (get_or texts j d) (get_or texts i d)) ≡ false) → AreInOrder texts
in_order [] late = tt
in_order (x ∷ xs) late = (
  none_before x xs (λ j d low. late 0 (suc j) d (omega arith) (omega arith)),
  in_order xs (λ i j d up low. late (suc i) (suc j) d (omega arith) (omega arith)),
)

sorted_in_order : (texts : List (List ℕ)) → IsSorted text_cmp texts → AreInOrder texts
sorted_in_order texts sorted = in_order texts (sorted_far (λ x y. is_lt (text_cmp x y)) (ranks_by order (λ x. x)) texts sorted)

-- a text that isn't before another one, and doesn't begin with it, is after it
after_it : (k x : List ℕ) → is_lt (text_cmp x k) ≡ false → begins_with x k ≡ false → text_cmp k x ≡ Less
after_it k x late apart = order.antisymm k x ∙ go (text_cmp x k) refl late
  where
    go : (o : Ordering) → text_cmp x k ≡ o → is_lt o ≡ false → ordering_reverse o ≡ Less
    go Less e f = absurd (true≢false f)
    go Equal e f = absurd (true≢false (sym (begins_itself k) ∙ ap (λ y. begins_with y k) (sym (text_is x k e)) ∙ apart))
    go Greater e f = refl

-- ---- what is kept of them: a text that doesn't begin with the one kept before

abbrev kept_from : List ℕ → List (List ℕ) → List (List ℕ)
kept_from k texts = dedup_from begins_with k texts

kept_behind : (b k : List ℕ) (texts : List (List ℕ)) → text_cmp b k ≡ Less → begins_with k b ≡ false → NoneBefore k texts → AreInOrder texts → AreBehind b (kept_from k texts)
kept_behind b k [] less apart late up = (less, apart, tt)
kept_behind b k (x ∷ xs) less apart late up =
    go (begins_with x k) refl (kept_behind b k xs less apart late.1 up.1) (λ e. kept_behind k x xs (after_it k x late.0 e) e up.0 up.1)
  where
    go : (s : Bool) → begins_with x k ≡ s → AreBehind b (kept_from k xs) → (begins_with x k ≡ false → AreBehind k (kept_from x xs))
        → AreBehind b (cond s (kept_from k xs) (k ∷ kept_from x xs))
    go true e left more = left
    go false e left more = (less, apart, more e)

kept_apart : (k : List ℕ) (texts : List (List ℕ)) → NoneBefore k texts → AreInOrder texts → AreApart (kept_from k texts)
kept_apart k [] late up = tt
kept_apart k (x ∷ xs) late up = go (begins_with x k) refl (kept_apart k xs late.1 up.1)
  where
    go : (s : Bool) → begins_with x k ≡ s → AreApart (kept_from k xs) → AreApart (cond s (kept_from k xs) (k ∷ kept_from x xs))
    go true e left = left
    go false e left = kept_behind k x xs (after_it k x late.0 e) e up.0 up.1

pub sorted_apart : (texts : List (List ℕ)) → IsSorted text_cmp texts → AreApart (dedup begins_with texts)
sorted_apart [] sorted = tt
sorted_apart (k ∷ xs) sorted = let up = sorted_in_order (k ∷ xs) sorted in kept_apart k xs up.0 up.1

-- what begins with a text begins with one that is kept

or_absorb : (a b c : Bool) → (b ≡ true → a ≡ true) → (a || (b || c)) ≡ true → (a || c) ≡ true
or_absorb true b c h e = refl
or_absorb false true c h e = absurd (false≢true (h refl))
or_absorb false false c h e = e

or_more : (a b c : Bool) → (b ≡ true → c ≡ true) → (a || b) ≡ true → (a || c) ≡ true
or_more true b c h e = refl
or_more false b c h e = h e

kept_covers : (u k : List ℕ) (texts : List (List ℕ)) → (begins_with u k || begins_with_one texts u) ≡ true → begins_with_one (kept_from k texts) u ≡ true
kept_covers u k [] e = e
kept_covers u k (x ∷ xs) e = go (begins_with x k) refl (kept_covers u k xs) (kept_covers u x xs)
  where
    go : (s : Bool) → begins_with x k ≡ s → ((begins_with u k || begins_with_one xs u) ≡ true → begins_with_one (kept_from k xs) u ≡ true)
        → ((begins_with u x || begins_with_one xs u) ≡ true → begins_with_one (kept_from x xs) u ≡ true)
        → begins_with_one (cond s (kept_from k xs) (k ∷ kept_from x xs)) u ≡ true
    go true f left more = left (or_absorb (begins_with u k) (begins_with u x) (begins_with_one xs u) (λ h. begins_through u x k h f) e)
    go false f left more = or_more (begins_with u k) (begins_with u x || begins_with_one xs u) (begins_with_one (kept_from x xs) u) more e

pub covers : (u : List ℕ) (texts : List (List ℕ)) → begins_with_one texts u ≡ true → begins_with_one (dedup begins_with texts) u ≡ true
covers u [] e = e
covers u (k ∷ xs) e = kept_covers u k xs e
