-- The texts that `texts` gives fill the pattern, and those of any filling come no earlier.
use Rattle.std.proofs.Common.{◌≡◌, ℕ, zero, suc, ◌+◌, ◌<◌, ◌≤◌, Bool, true, false, cond, List, [], ◌∷◌, ◌++◌, length, take, drop, map, Option, Some, None, refl, sym, ap, subst, ◌∙◌, arith, inl, inr}
use Rattle.std.specs.Prelude.{◌&&◌, ◌==◌, is_some, option_map}
use Rattle.std.specs.List.{AllZip}
use Rattle.std.specs.Ordering.{nat_cmp, ordering_then, ordering_reverse, is_eq}
use Rattle.std.specs.Cmp.Lexicographic.{slice_cmp, nat_list_cmp_total, same_text, texts_ties}
use Rattle.std.specs.Cmp.{ranked}
use Rattle.std.specs.declared.cmp.Ordering.{Ordering}
use Rattle.std.specs.declared.cmp.Ordering.TheVariants.{Less, Equal, Greater}
use Rattle.std.proofs.lemmas.List.{take-append-drop, take_at, drop_at, length-take, length-append}
use Rattle.std.proofs.lemmas.Bool.{cases_lt}
use Rattle.depot_path.specs.declared.piece.Piece.{Piece}
use Rattle.depot_path.specs.declared.piece.Piece.TheVariants.{Byte, Star, Dots, Place}
use Rattle.depot_path.specs.Fit.{StandsFor, stands_for, specifiers, filled, IsFilling, NoLater, AreTexts, texts, first_texts}

abbrev pub Texts : Type 0
Texts = List (List ℕ)

abbrev Rest : Type 0
Rest = List ℕ → Option Texts

none_some : {A : Type 0} {x : A} → (let o : Option A = None in o) ≡ Some x → ⊥
none_some e = absurd cc

false_true : false ≡ true → ⊥
false_true e = absurd cc

-- where the first cut was found
abbrev FoundAt : Piece → Rest → List ℕ → Texts → Type 0
FoundAt s rest t ts = (i : ℕ) × (vs : Texts) × (stands_for s (take i t) ≡ true) × (rest (drop i t) ≡ Some vs) × (ts ≡ take i t ∷ vs)

found : (s : Piece) (rest : Rest) (t : List ℕ) (k n : ℕ) (ts : Texts) → first_texts s rest t k n ≡ Some ts → FoundAt s rest t ts
found s rest t k zero ts e = absurd cc
found s rest t k (suc n) ts e = go (stands_for s (take k t)) refl (rest (drop k t)) refl e (found s rest t (k + 1) n ts)
  where
    go : (b : Bool) → stands_for s (take k t) ≡ b → (o : Option Texts) → rest (drop k t) ≡ o
        → cond (b && is_some o) (option_map (λ us. take k t ∷ us) o) (first_texts s rest t (k + 1) n) ≡ Some ts
        → (first_texts s rest t (k + 1) n ≡ Some ts → FoundAt s rest t ts) → FoundAt s rest t ts
    go true p (Some vs) q h later = (k, vs, p, q, cc)
    go true p None q h later = later h
    go false p (Some vs) q h later = later h
    go false p None q h later = later h

-- a cut from place k on that passes is found, or an earlier one is
abbrev FoundBy : Piece → Rest → List ℕ → ℕ → ℕ → ℕ → Type 0
FoundBy s rest t k n j = (i : ℕ) × (vs : Texts) × (i ≤ j) × (rest (drop i t) ≡ Some vs) × (first_texts s rest t k n ≡ Some (take i t ∷ vs))

finds : (s : Piece) (rest : Rest) (t : List ℕ) (us : Texts) (j n k : ℕ) → k ≤ j → j < k + n → stands_for s (take j t) ≡ true → rest (drop j t) ≡ Some us → FoundBy s rest t k n j
finds s rest t us j zero k low high p q = absurd (omega (arith, low, high))
finds s rest t us j (suc n) k low high p q = go (stands_for s (take k t)) refl (rest (drop k t)) refl (λ below. finds s rest t us j n (k + 1) (omega (arith, below)) (omega (arith, high)) p q)
  where
    -- where the cut at k fails, it isn't the one at j
    apart : ((k ≡ j) → ⊥) → k < j
    apart differ = elim (cases_lt k j) [ inl lt ↦ lt | inr le ↦ absurd (differ (omega (arith, low, le))) ]

    go : (b : Bool) → stands_for s (take k t) ≡ b → (o : Option Texts) → rest (drop k t) ≡ o
        → (k < j → FoundBy s rest t (k + 1) n j)
        → (i : ℕ) × (vs : Texts) × (i ≤ j) × (rest (drop i t) ≡ Some vs) × (cond (b && is_some o) (option_map (λ vs. take k t ∷ vs) o) (first_texts s rest t (k + 1) n) ≡ Some (take i t ∷ vs))
    go true e (Some vs) f later = (k, vs, low, f, refl)
    go true e None f later = later (apart (λ same. (none_some (sym f ∙ ap (λ i. rest (drop i t)) same ∙ q))))
    go false e o f later = later (apart (λ same. (false_true (sym e ∙ ap (λ i. stands_for s (take i t)) same ∙ p))))

-- ---- what is given fills

abbrev Sound : List Piece → Type 0
Sound p = (t : List ℕ) (ts : Texts) → texts p t ≡ Some ts → IsFilling p t ts

sound-end : Sound []
sound-end [] [] e = record { each = tt; whole = refl }
sound-end [] (u ∷ us) e = absurd cc
sound-end (x ∷ t) ts e = absurd cc

some_is : {A : Type 0} (x y : A) → (let o : Option A = Some x in o) ≡ Some y → x ≡ y
some_is x y e = cc

cons_from : (i : ℕ) (t : List ℕ) (v : List ℕ) → v ≡ drop i t → take i t ++ v ≡ t
cons_from i t v e = ap (λ (w : List ℕ). take i t ++ w) e ∙ take-append-drop i t

cons_is : {x y : ℕ} {xs ys : List ℕ} → x ≡ y → xs ≡ ys → x ∷ xs ≡ y ∷ ys
cons_is e f = cc

b_is : (b x : ℕ) → (b == x) ≡ true → b ≡ x
b_is b x e = grind (arith, e)

sound-byte : (b : ℕ) (p : List Piece) → Sound p → Sound (Byte b ∷ p)
sound-byte b p ih [] ts e = absurd cc
sound-byte b p ih (x ∷ t) ts e = go (b == x) refl e
  where
    go : (c : Bool) → (b == x) ≡ c → cond c (texts p t) None ≡ Some ts → IsFilling (Byte b ∷ p) (x ∷ t) ts
    go true same h = let f : IsFilling p t ts = ih t ts h in record { each = f.each; whole = cons_is (b_is b x same) f.whole }
    go false differ h = absurd cc

-- what is found for a specifier, with the filling of what follows it
record Spread (s : Piece) (p : List Piece) (t : List ℕ) (ts : Texts) : Type 0 where
  front : List ℕ
  others : Texts
  stands : stands_for s front ≡ true
  each : AllZip StandsFor (specifiers p) others
  whole : front ++ filled p others ≡ t
  is : ts ≡ front ∷ others

spread : (s : Piece) (p : List Piece) (t : List ℕ) (ts : Texts) → Sound p → FoundAt s (texts p) t ts → Spread s p t ts
spread s p t ts ih f =
    let g : IsFilling p (drop f.0 t) f.1 = ih (drop f.0 t) f.1 f.3 in
    record { front = take f.0 t; others = f.1; stands = f.2; each = g.each; whole = cons_from f.0 t (filled p f.1) g.whole; is = f.4 }

sound-star : (p : List Piece) → Sound p → Sound (Star ∷ p)
sound-star p ih t ts e =
    let r : Spread Star p t ts = spread Star p t ts ih (found Star (texts p) t 0 (length t + 1) ts e) in
    subst (λ us. IsFilling (Star ∷ p) t us) (sym r.is) (record { each = (r.stands, r.each); whole = r.whole })

sound-dots : (p : List Piece) → Sound p → Sound (Dots ∷ p)
sound-dots p ih t ts e =
    let r : Spread Dots p t ts = spread Dots p t ts ih (found Dots (texts p) t 0 (length t + 1) ts e) in
    subst (λ us. IsFilling (Dots ∷ p) t us) (sym r.is) (record { each = (r.stands, r.each); whole = r.whole })

sound-place : (k : ℕ) (p : List Piece) → Sound p → Sound (Place k ∷ p)
sound-place k p ih t ts e =
    let r : Spread (Place k) p t ts = spread (Place k) p t ts ih (found (Place k) (texts p) t 0 (length t + 1) ts e) in
    subst (λ us. IsFilling (Place k ∷ p) t us) (sym r.is) (record { each = (r.stands, r.each); whole = r.whole })

sound : (p : List Piece) → Sound p
sound [] = sound-end
sound (Byte b ∷ p) = sound-byte b p (sound p)
sound (Star ∷ p) = sound-star p (sound p)
sound (Dots ∷ p) = sound-dots p (sound p)
sound (Place k ∷ p) = sound-place k p (sound p)

-- ---- any filling is found, or one before it

abbrev Least : List Piece → List ℕ → Texts → Type 0
Least p t us = (ts : Texts) × (texts p t ≡ Some ts) × NoLater ts us

abbrev Complete : List Piece → Type 0
Complete p = (t : List ℕ) (us : Texts) → IsFilling p t us → Least p t us

nil_cons : {x : ℕ} {t : List ℕ} → (let l : List ℕ = [] in l) ≡ x ∷ t → ⊥
nil_cons e = absurd cc

cons_nil : {x : ℕ} {t : List ℕ} → x ∷ t ≡ (let l : List ℕ = [] in l) → ⊥
cons_nil e = absurd cc

tails : {x y : ℕ} {s t : List ℕ} → x ∷ s ≡ y ∷ t → s ≡ t
tails e = cc

heads : {x y : ℕ} {s t : List ℕ} → x ∷ s ≡ y ∷ t → x ≡ y
heads e = cc

is_then : (c : Bool) (o : Option Texts) → c ≡ true → cond c o None ≡ o
is_then true o e = refl
is_then false o e = absurd cc

same_b : (b x : ℕ) → b ≡ x → (b == x) ≡ true
same_b b x e = grind (arith, e)

take_len : (i : ℕ) (t : List ℕ) → i ≤ length t → length (take i t) ≡ i
take_len i t h = grind (arith, length-take i t, h)

less_greater : Less ≡ Greater → ⊥
less_greater e = absurd cc

abbrev then_compare : Ordering → Texts → Texts → Ordering
then_compare o vs us = ordering_then o (slice_cmp nat_cmp (map length vs) (map length us))

long_is : {a b i : ℕ} → a ≡ i → a ≡ b → i ≡ b
long_is e f = sym e ∙ f

equal_greater : Equal ≡ Greater → ⊥
equal_greater e = absurd cc

complete-end : Complete []
complete-end [] [] f = ([], refl, λ e. equal_greater e)
complete-end [] (u ∷ us) f = absurd f.each
complete-end (x ∷ t) [] f = absurd (nil_cons f.whole)
complete-end (x ∷ t) (u ∷ us) f = absurd f.each

complete-byte : (b : ℕ) (p : List Piece) → Complete p → Complete (Byte b ∷ p)
complete-byte b p ih [] us f = absurd (cons_nil f.whole)
complete-byte b p ih (x ∷ t) us f =
    let r : Least p t us = ih t us (record { each = f.each; whole = tails f.whole }) in
    (r.0, is_then (b == x) (texts p t) (same_b b x (heads f.whole)) ∙ r.1, r.2)

-- a front that is a filling's first text, and the least texts of the rest
record Front (s : Piece) (p : List Piece) (t u : List ℕ) (us : Texts) : Type 0 where
  stands : stands_for s u ≡ true
  whole : u ++ filled p us ≡ t
  least : Least p (drop (length u) t) us

take_front : (u v t : List ℕ) → u ++ v ≡ t → take (length u) t ≡ u
take_front u v t e = subst (λ (w : List ℕ). take (length u) w ≡ u) e (take_at u v (length u) refl)

drop_front : (u v t : List ℕ) → u ++ v ≡ t → drop (length u) t ≡ v
drop_front u v t e = subst (λ (w : List ℕ). drop (length u) w ≡ v) e (drop_at u v (length u) refl)

front_fits : (u v t : List ℕ) → u ++ v ≡ t → length u ≤ length t
front_fits u v t e = subst (λ (w : List ℕ). length u ≤ length w) e (omega (arith, length-append u v))

front : (s : Piece) (p : List Piece) (t u : List ℕ) (us : Texts) → Complete p → stands_for s u ≡ true → AllZip StandsFor (specifiers p) us → u ++ filled p us ≡ t → Front s p t u us
front s p t u us ih stands each whole = record {
  stands = stands;
  whole = whole;
  least = ih (drop (length u) t) us (record { each = each; whole = sym (drop_front u (filled p us) t whole) });
}

-- the order of two lists of texts by their first lengths
no_later : (i : ℕ) (v u : List ℕ) (vs ws us : Texts) → length v ≡ i → i ≤ length u → NoLater ws us → (i ≡ length u → vs ≡ ws) → NoLater (v ∷ vs) (u ∷ us)
no_later i v u vs ws us long low later same = go (nat_cmp (length v) (length u)) refl
  where
    go : (o : Ordering) → nat_cmp (length v) (length u) ≡ o → NoLater (v ∷ vs) (u ∷ us)
    go Less e h = less_greater (sym (ap (λ o. then_compare o vs us) e) ∙ h)
    go Greater e h = absurd (omega (arith, ranked (length v) (length u) Greater (sym e), long, low))
    go Equal e h = later (sym (ap (λ ys. then_compare Equal ys us) (same (long_is long (ranked (length v) (length u) Equal (sym e))))) ∙ sym (ap (λ o. then_compare o vs us) e) ∙ h)

finish : (s : Piece) (p : List Piece) (t u : List ℕ) (us : Texts) → Front s p t u us → (ts : Texts) × (first_texts s (texts p) t 0 (length t + 1) ≡ Some ts) × NoLater ts (u ∷ us)
finish s p t u us f =
    let fits = front_fits u (filled p us) t f.whole in
    let r : FoundBy s (texts p) t 0 (length t + 1) (length u) =
    finds s (texts p) t f.least.0 (length u) (length t + 1) 0 (omega arith) (omega (arith, fits)) (ap (λ w. stands_for s w) (take_front u (filled p us) t f.whole) ∙ f.stands) f.least.1 in (
      take r.0 t ∷ r.1,
      r.4,
      no_later r.0 (take r.0 t) u r.1 f.least.0 us (take_len r.0 t (omega (arith, r.2, fits))) r.2 f.least.2
          (λ same. some_is r.1 f.least.0 (sym r.3 ∙ ap (λ i. texts p (drop i t)) same ∙ f.least.1)),
    )

complete-star : (p : List Piece) → Complete p → Complete (Star ∷ p)
complete-star p ih t [] f = absurd f.each
complete-star p ih t (u ∷ us) f = finish Star p t u us (front Star p t u us ih f.each.0 f.each.1 f.whole)

complete-dots : (p : List Piece) → Complete p → Complete (Dots ∷ p)
complete-dots p ih t [] f = absurd f.each
complete-dots p ih t (u ∷ us) f = finish Dots p t u us (front Dots p t u us ih f.each.0 f.each.1 f.whole)

complete-place : (k : ℕ) (p : List Piece) → Complete p → Complete (Place k ∷ p)
complete-place k p ih t [] f = absurd f.each
complete-place k p ih t (u ∷ us) f = finish (Place k) p t u us (front (Place k) p t u us ih f.each.0 f.each.1 f.whole)

complete : (p : List Piece) → Complete p
complete [] = complete-end
complete (Byte b ∷ p) = complete-byte b p (complete p)
complete (Star ∷ p) = complete-star p (complete p)
complete (Dots ∷ p) = complete-dots p (complete p)
complete (Place k ∷ p) = complete-place k p (complete p)

-- what `texts` gives are the texts whose lengths come first
pub texts_are : (p : List Piece) (t : List ℕ) (ts : Texts) → texts p t ≡ Some ts → AreTexts p t ts
texts_are p t ts e = record { fill = sound p t ts e; first = λ others f. let r : Least p t others = complete p t others f in subst (λ us. NoLater us others) (some_is r.0 ts (sym r.1 ∙ e)) r.2 }

pub texts_there : (p : List Piece) (t : List ℕ) (us : Texts) → IsFilling p t us → (ts : Texts) × (texts p t ≡ Some ts)
texts_there p t us f = let r : Least p t us = complete p t us f in (r.0, r.1)

-- ---- texts of the same lengths that fill a pattern to the same text are the same

same_front : (u v x y : List ℕ) → length u ≡ length v → u ++ x ≡ v ++ y → u ≡ v
same_front u v x y long e = sym (take_front u x (v ++ y) e) ∙ ap (λ n. take n (v ++ y)) long ∙ take_front v y (v ++ y) refl

same_back : (u v x y : List ℕ) → length u ≡ length v → u ++ x ≡ v ++ y → x ≡ y
same_back u v x y long e = sym (drop_front u x (v ++ y) e) ∙ ap (λ n. drop n (v ++ y)) long ∙ drop_front v y (v ++ y) refl

same_texts : {u v : List ℕ} {us vs : Texts} → u ≡ v → us ≡ vs → u ∷ us ≡ v ∷ vs
same_texts e f = cc

abbrev Single : List Piece → Type 0
Single p = (ts us : Texts) → AllZip StandsFor (specifiers p) ts → AllZip StandsFor (specifiers p) us → map length ts ≡ map length us → filled p ts ≡ filled p us → ts ≡ us

single_end : Single []
single_end [] [] f g long e = refl
single_end [] (u ∷ us) f g long e = absurd g
single_end (t ∷ ts) us f g long e = absurd f

single_byte : (b : ℕ) (p : List Piece) → Single p → Single (Byte b ∷ p)
single_byte b p ih ts us f g long e = ih ts us f g long (tails e)

single_front : (p : List Piece) (t u : List ℕ) (ts us : Texts) → Single p → AllZip StandsFor (specifiers p) ts → AllZip StandsFor (specifiers p) us → length t ∷ map length ts ≡ length u ∷ map length us → t ++ filled p ts ≡ u ++ filled p us → t ∷ ts ≡ u ∷ us
single_front p t u ts us ih f g long e =
    same_texts (same_front t u (filled p ts) (filled p us) (heads long) e)
    (ih ts us f g (tails long) (same_back t u (filled p ts) (filled p us) (heads long) e))

single_star : (p : List Piece) → Single p → Single (Star ∷ p)
single_star p ih [] us f g long e = absurd f
single_star p ih (t ∷ ts) [] f g long e = absurd g
single_star p ih (t ∷ ts) (u ∷ us) f g long e = single_front p t u ts us ih f.1 g.1 long e

single_dots : (p : List Piece) → Single p → Single (Dots ∷ p)
single_dots p ih [] us f g long e = absurd f
single_dots p ih (t ∷ ts) [] f g long e = absurd g
single_dots p ih (t ∷ ts) (u ∷ us) f g long e = single_front p t u ts us ih f.1 g.1 long e

single_place : (k : ℕ) (p : List Piece) → Single p → Single (Place k ∷ p)
single_place k p ih [] us f g long e = absurd f
single_place k p ih (t ∷ ts) [] f g long e = absurd g
single_place k p ih (t ∷ ts) (u ∷ us) f g long e = single_front p t u ts us ih f.1 g.1 long e

single : (p : List Piece) → Single p
single [] = single_end
single (Byte b ∷ p) = single_byte b p (single p)
single (Star ∷ p) = single_star p (single p)
single (Dots ∷ p) = single_dots p (single p)
single (Place k ∷ p) = single_place k p (single p)

-- of two lists neither of which comes later
same_order : (xs ys : List ℕ) → (slice_cmp nat_cmp xs ys ≡ Greater → ⊥) → (slice_cmp nat_cmp ys xs ≡ Greater → ⊥) → xs ≡ ys
same_order xs ys f g = go (slice_cmp nat_cmp xs ys) refl
  where
    go : (o : Ordering) → slice_cmp nat_cmp xs ys ≡ o → xs ≡ ys
    go Less e = absurd (g (nat_list_cmp_total.antisymm ys xs ∙ ap ordering_reverse e))
    go Greater e = absurd (f e)
    go Equal e = same_text xs ys (sym (texts_ties xs ys ∙ ap is_eq e))

-- the texts whose lengths come first are what `texts` gives
pub texts_only : (p : List Piece) (t : List ℕ) (us : Texts) → AreTexts p t us → texts p t ≡ Some us
texts_only p t us f =
    let r : Least p t us = complete p t us f.fill in
    let g : IsFilling p t r.0 = sound p t r.0 r.1 in
    r.1 ∙ ap (λ (ts : Texts). Some ts) (single p r.0 us g.each f.fill.each (same_order (map length r.0) (map length us) r.2 (f.first r.0 g)) (g.whole ∙ sym f.fill.whole))
