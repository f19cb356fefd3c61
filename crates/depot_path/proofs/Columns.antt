-- The columns of a pattern in a text, and the texts of its specifiers that they tell.
use Rattle.std.proofs.Common.{◌≡◌, ℕ, zero, suc, ◌+◌, ◌-◌, ◌<◌, ◌≤◌, Bool, true, false, cond, List, [], ◌∷◌, ◌++◌, length, slice_set, replicate, inl, inr, take, drop, Option, Some, None, refl, sym, ap, subst, get_or, ◌∙◌, arith}
use Rattle.std.specs.Prelude.{◌&&◌, ◌||◌, ◌==◌, not, is_some, option_map}
use Rattle.std.specs.List.{list_any}
use Rattle.std.proofs.lemmas.Bool.{cases_lt}
use Rattle.std.proofs.lemmas.Grind.{get_or-set_at}
use Rattle.std.proofs.lemmas.List.{get_or-set_other, get_or-replicate, get_or_append_left, get_or_at, length-append, length-replicate, length-set, length-drop, drop_more, drop_all, drop-drop, append-nil, append_assoc}
use Rattle.depot_path.specs.Fit.{stands_for, texts, first_texts, fits, is_specifier}
use Rattle.depot_path.specs.Filling.{IsColumn, AreColumns, IsFirst}
use Rattle.depot_path.specs.Rows.{with_byte}
use Rattle.depot_path.specs.declared.piece.Piece.{Piece}
use Rattle.depot_path.specs.declared.piece.Piece.TheVariants.{Byte, Star, Dots, Place}
use Rattle.depot_path.proofs.Rows.{step}

-- ---- columns

end_before : (text : List ℕ) (k : ℕ) → k < length text → fits [] (drop k text) ≡ false
end_before [] k h = absurd (omega arith)
end_before (x ∷ text) zero h = refl
end_before (x ∷ text) (suc k) h = end_before text k (omega (arith, h))

end_after : (text : List ℕ) (k : ℕ) → length text ≤ k → fits [] (drop k text) ≡ true
end_after text k h = ap (λ t. fits [] t) (drop_all k text h)

-- the column of no pieces
pub begun : (text : List ℕ) (column : List Bool) → column ≡ replicate (length text) false ++ true ∷ [] → IsColumn [] text column
begun text column e = record {
  size = ap length e ∙ length-append (replicate (length text) false) (true ∷ []) ∙ ap (λ n. n + 1) (length-replicate (length text) false);
  at = λ k high. ap (λ c. get_or c k false) e ∙ elim (cases_lt k (length text)) [
    | inl lt ↦
        get_or_append_left (replicate (length text) false) (true ∷ []) false k (omega (arith, lt, length-replicate (length text) false))
        ∙ get_or-replicate (length text) k false false lt ∙ sym (end_before text k lt)
    | inr le ↦ get_or_at (replicate (length text) false) true [] false k (length-replicate (length text) false ∙ omega (arith, high, le)) ∙ sym (end_after text k le)
  ];
}

-- a column after one place more
pub record Joined (piece : Piece) (pieces : List Piece) (text : List ℕ) (column : List Bool) (at : ℕ) (below : Bool) : Type 0 where
  pub under : below ≡ fits pieces (drop at text)
  pub before : (k : ℕ) → k < at → get_or column k false ≡ fits pieces (drop k text)
  pub done : (k : ℕ) → at ≤ k → k ≤ length text → get_or column k false ≡ fits (piece ∷ pieces) (drop k text)

pub record Joining (piece : Piece) (text : List ℕ) (initial column : List Bool) (at : ℕ) (below : Bool) : Type 0 where
  pub within : at ≤ length text
  pub size : length column ≡ length text + 1
  pub each : (pieces : List Piece) → IsColumn pieces text initial → Joined piece pieces text column at below

join_at : (piece : Piece) (pieces : List Piece) (text : List ℕ) (column : List Bool) (k d : ℕ) (below r : Bool) → Joined piece pieces text column (k + 1) below →
    k + 1 ≤ length text → length column ≡ length text + 1 → r ≡ with_byte piece (get_or text k d) (get_or column (k + 1) false) below (get_or column k false) →
    Joined piece pieces text (slice_set column k r) k (get_or column k false)
join_at piece pieces text column k d below r h high size e =
    let b = get_or text k d in
    let here = drop_more text k d (omega (arith, high)) in
    record {
      under = h.before k (omega arith);
      before = λ j low. get_or-set_other column k j r false (λ same. omega (arith, same, low)) ∙ h.before j (omega (arith, low));
      done = λ j low up. elim (cases_lt k j) [
        | inl lt ↦ get_or-set_other column k j r false (λ same. omega (arith, same, lt)) ∙ h.done j (omega (arith, lt)) up
        | inr le ↦
            let same : j ≡ k = omega (arith, low, le) in
            get_or-set_at column k j r false same (omega (arith, size, high)) ∙ e
            ∙ ap (λ c. with_byte piece b c below (get_or column k false)) (h.done (k + 1) (omega arith) high)
            ∙ ap (λ c. with_byte piece b (fits (piece ∷ pieces) (drop (k + 1) text)) c (get_or column k false)) h.under
            ∙ ap (λ c. with_byte piece b (fits (piece ∷ pieces) (drop (k + 1) text)) (fits pieces (drop (k + 1) text)) c) (h.before k (omega arith) ∙ ap (λ t. fits pieces t) here)
            ∙ sym (step piece pieces b (drop (k + 1) text))
            ∙ ap (λ t. fits (piece ∷ pieces) t) (sym here)
            ∙ ap (λ i. fits (piece ∷ pieces) (drop i text)) (sym same)
      ];
    }

pub joining : (piece : Piece) (text : List ℕ) (initial column : List Bool) (k at d : ℕ) (below r : Bool) → at ≡ k + 1 → Joining piece text initial column at below →
    r ≡ with_byte piece (get_or text k d) (get_or column (k + 1) false) below (get_or column k false) → Joining piece text initial (slice_set column k r) k (get_or column k false)
joining piece text initial column k at d below r e h f = record {
  within = omega (arith, h.within, e);
  size = length-set column k r ∙ h.size;
  each = λ pieces is. join_at piece pieces text column k d below r (subst (λ i. Joined piece pieces text column i below) e (h.each pieces is)) (omega (arith, h.within, e)) h.size f;
}

pub joined_all : (piece : Piece) (pieces : List Piece) (text : List ℕ) (initial column : List Bool) (below : Bool) → Joining piece text initial column 0 below →
    IsColumn pieces text initial → IsColumn (piece ∷ pieces) text column
joined_all piece pieces text initial column below h is = record { size = h.size; at = λ k high. (h.each pieces is).done k (omega arith) high }

pub kept : (piece : Piece) (pieces : List Piece) (text : List ℕ) (column : List Bool) (columns : List (List Bool)) → is_specifier piece ≡ true →
    IsColumn pieces text column → AreColumns pieces text columns → AreColumns (piece ∷ pieces) text (columns ++ column ∷ [])
kept (Byte b) pieces text column columns e h k = absurd cc
kept Star pieces text column columns e h k = (columns, column, refl, h, k)
kept Dots pieces text column columns e h k = (columns, column, refl, h, k)
kept (Place n) pieces text column columns e h k = (columns, column, refl, h, k)

pub next_columns : (pieces : List Piece) (text : List ℕ) (k : ℕ) (d : Piece) (columns : List (List Bool)) → k < length pieces →
    AreColumns (get_or pieces k d ∷ drop (k + 1) pieces) text columns → AreColumns (drop k pieces) text columns
next_columns pieces text k d columns low h = subst (λ p. AreColumns p text columns) (sym (drop_more pieces k d low)) h

pub next_column : (pieces : List Piece) (text : List ℕ) (k : ℕ) (d : Piece) (column : List Bool) → k < length pieces →
    IsColumn (get_or pieces k d ∷ drop (k + 1) pieces) text column → IsColumn (drop k pieces) text column
next_column pieces text k d column low h = subst (λ p. IsColumn p text column) (sym (drop_more pieces k d low)) h

-- ---- the walk

abbrev pub Texts : Type 0
Texts = List (List ℕ)

-- the texts so far, and what follows
pub record Walking (pieces : List Piece) (text : List ℕ) (rest : List Piece) (at : ℕ) (columns : List (List Bool)) (done : Texts) : Type 0 where
  pub within : at ≤ length text
  pub left : AreColumns rest text columns
  pub fit : fits rest (drop at text) ≡ true
  pub whole : option_map (λ us. done ++ us) (texts rest (drop at text)) ≡ texts pieces text

abbrev Rest : Type 0
Rest = List ℕ → Option Texts

some_of : (o : Option Texts) → is_some o ≡ true → (ts : Texts) × (o ≡ Some ts)
some_of (Some ts) e = (ts, refl)
some_of None e = absurd cc

-- where a cut was found
abbrev Cut : Piece → Rest → List ℕ → ℕ → ℕ → Type 0
Cut s rest t k n = (i : ℕ) × (i < k + n) × (stands_for s (take i t) ≡ true) × (is_some (rest (drop i t)) ≡ true)

cut : (s : Piece) (rest : Rest) (t : List ℕ) (k n : ℕ) (ts : Texts) → first_texts s rest t k n ≡ Some ts → Cut s rest t k n
cut s rest t k zero ts e = absurd cc
cut s rest t k (suc n) ts e = go (stands_for s (take k t)) refl (rest (drop k t)) refl e (λ f. later (cut s rest t (k + 1) n ts f))
  where
    later : Cut s rest t (k + 1) n → Cut s rest t k (suc n)
    later c = (c.0, omega (arith, c.1), c.2, c.3)

    go : (b : Bool) → stands_for s (take k t) ≡ b → (o : Option Texts) → rest (drop k t) ≡ o
        → cond (b && is_some o) (option_map (λ us. take k t ∷ us) o) (first_texts s rest t (k + 1) n) ≡ Some ts
        → (first_texts s rest t (k + 1) n ≡ Some ts → Cut s rest t k (suc n)) → Cut s rest t k (suc n)
    go true p (Some vs) q h next = (k, omega arith, p, ap is_some q)
    go true p None q h next = next h
    go false p (Some vs) q h next = next h
    go false p None q h next = next h

-- what has no slash has none in its beginning
no_slash : (t : List ℕ) (m i : ℕ) → m ≤ i → not (list_any (λ x. x == 0x2F) (take i t)) ≡ true → not (list_any (λ x. x == 0x2F) (take m t)) ≡ true
no_slash t zero i h e = refl
no_slash t (suc m) zero h e = absurd (omega (arith, h))
no_slash [] (suc m) (suc i) h e = refl
no_slash (x ∷ t) (suc m) (suc i) h e = go (x == 0x2F) (λ f. no_slash t m i (omega (arith, h)) f) e
  where
    go : (b : Bool) → (not (list_any (λ y. y == 0x2F) (take i t)) ≡ true → not (list_any (λ y. y == 0x2F) (take m t)) ≡ true)
        → not (b || list_any (λ y. y == 0x2F) (take i t)) ≡ true → not (b || list_any (λ y. y == 0x2F) (take m t)) ≡ true
    go true next f = absurd cc
    go false next f = next f

stands_before : (s : Piece) (t : List ℕ) (m i : ℕ) → m ≤ i → stands_for s (take i t) ≡ true → stands_for s (take m t) ≡ true
stands_before (Byte b) t m i h e = no_slash t m i h e
stands_before Star t m i h e = no_slash t m i h e
stands_before Dots t m i h e = refl
stands_before (Place k) t m i h e = no_slash t m i h e

miss : (a b : Bool) (x y : Option Texts) → b ≡ false → cond (a && b) x y ≡ y
miss true true x y e = absurd cc
miss true false x y e = refl
miss false b x y e = refl

hit : (a b : Bool) (x y : Option Texts) → a ≡ true → b ≡ true → cond (a && b) x y ≡ x
hit true true x y e f = refl
hit true false x y e f = absurd cc
hit false b x y e f = absurd cc

-- the first cut whose rest fits is taken
skip : (s : Piece) (rest : Rest) (t : List ℕ) (k n m : ℕ) → k ≤ m → m < k + n → ((j : ℕ) → k ≤ j → j < m → is_some (rest (drop j t)) ≡ false) →
    stands_for s (take m t) ≡ true → is_some (rest (drop m t)) ≡ true → first_texts s rest t k n ≡ option_map (λ us. take m t ∷ us) (rest (drop m t))
skip s rest t k zero m low high none stands some = absurd (omega (arith, low, high))
skip s rest t k (suc n) m low high none stands some = elim (cases_lt k m) [
  | inl lt ↦
      miss (stands_for s (take k t)) (is_some (rest (drop k t))) (option_map (λ us. take k t ∷ us) (rest (drop k t))) (first_texts s rest t (k + 1) n) (none k (omega arith) lt)
      ∙ skip s rest t (k + 1) n m (omega (arith, lt)) (omega (arith, high)) (λ j p q. none j (omega (arith, p)) q) stands some
  | inr le ↦
      let same : k ≡ m = omega (arith, low, le) in
      hit (stands_for s (take k t)) (is_some (rest (drop k t))) (option_map (λ us. take k t ∷ us) (rest (drop k t))) (first_texts s rest t (k + 1) n)
      (ap (λ i. stands_for s (take i t)) same ∙ stands) (ap (λ i. is_some (rest (drop i t))) same ∙ some)
      ∙ ap (λ i. option_map (λ us. take i t ∷ us) (rest (drop i t))) same
]

specifier_texts : (s : Piece) (p : List Piece) (t : List ℕ) → is_specifier s ≡ true → texts (s ∷ p) t ≡ first_texts s (texts p) t 0 (length t + 1)
specifier_texts (Byte b) p t e = absurd cc
specifier_texts Star p t e = refl
specifier_texts Dots p t e = refl
specifier_texts (Place k) p t e = refl

true_false : (let b : Bool = true in b) ≡ false → ⊥
true_false e = absurd cc

-- the text of a specifier ends at the first place from which the rest fits
record Ahead (s : Piece) (p : List Piece) (text : List ℕ) (at place : ℕ) : Type 0 where
  within : place ≤ length text
  fit : fits p (drop place text) ≡ true
  whole : texts (s ∷ p) (drop at text) ≡ option_map (λ us. take (place - at) (drop at text) ∷ us) (texts p (drop place text))

-- what a column says of the text from one place on
from_place : (p : List Piece) (text : List ℕ) (column : List Bool) (at i : ℕ) → IsColumn p text column → at + i ≤ length text → is_some (texts p (drop i (drop at text))) ≡ get_or column (at + i) false
from_place p text column at i h low = ap (λ t. fits p t) (drop-drop i at text) ∙ sym (h.at (at + i) low)

is_marked : (column : List Bool) (from place i last : ℕ) → IsFirst column from place → length column ≡ last + 1 → from ≤ i → i ≤ last → get_or column i false ≡ true →
    (place ≤ i) × (get_or column place false ≡ true)
is_marked column from place i last h size low high e = (least, go (get_or column place false) refl)
  where
    least : place ≤ i
    least = elim (cases_lt i place) [ inl lt ↦ absurd (true_false (sym e ∙ h.none i low lt)) | inr le ↦ le ]

    go : (b : Bool) → get_or column place false ≡ b → get_or column place false ≡ true
    go true f = f
    go false f = let same : i ≡ place = omega (arith, least, h.ends f, size, high) in ap (λ k. get_or column k false) (sym same) ∙ e

ahead : (s : Piece) (p : List Piece) (text : List ℕ) (column : List Bool) (at place : ℕ) → is_specifier s ≡ true → IsColumn p text column → IsFirst column at place → at ≤ length text →
    fits (s ∷ p) (drop at text) ≡ true → Ahead s p text at place
ahead s p text column at place e h first low fit =
    let t = drop at text in
    let long : length t ≡ length text - at = length-drop at text in
    let as_first = specifier_texts s p t e in
    let found = some_of (first_texts s (texts p) t 0 (length t + 1)) (ap is_some (sym as_first) ∙ fit) in
    let c = cut s (texts p) t 0 (length t + 1) found.0 found.1 in
    let inside : at + c.0 ≤ length text = omega (arith, c.1, long, low) in
    let marked = is_marked column at place (at + c.0) (length text) first h.size (omega arith) inside (sym (from_place p text column at c.0 h inside) ∙ c.3) in
    let m = place - at in
    let back : at + m ≡ place = omega (arith, first.low) in
    let there : drop m t ≡ drop place text = drop-drop m at text ∙ ap (λ i. drop i text) back in
    let fit_there : fits p (drop place text) ≡ true = sym (h.at place (omega (arith, marked.0, inside))) ∙ marked.1 in
    record {
      within = omega (arith, marked.0, inside);
      fit = fit_there;
      whole = as_first
          ∙ skip s (texts p) t 0 (length t + 1) m (omega arith) (omega (arith, marked.0, c.1))
          (λ j below_zero below. from_place p text column at j h (omega (arith, below, marked.0, inside)) ∙ first.none (at + j) (omega arith) (omega (arith, below)))
          (stands_before s t m c.0 (omega (arith, marked.0)) c.2) (ap (λ u. fits p u) there ∙ fit_there)
          ∙ ap (λ u. option_map (λ us. take m t ∷ us) (texts p u)) there;
    }

-- ---- its steps

last_same : (xs ys : List (List Bool)) (x y : List Bool) → xs ++ x ∷ [] ≡ ys ++ y ∷ [] → (xs ≡ ys) × (x ≡ y)
last_same [] [] x y e = (refl, cc)
last_same [] (v ∷ ys) x y e = absurd (omega (arith, ap length e, length-append ys (y ∷ [])))
last_same (u ∷ xs) [] x y e = absurd (omega (arith, ap length e, length-append xs (x ∷ [])))
last_same (u ∷ xs) (v ∷ ys) x y e =
    let rest = last_same xs ys x y (cc) in
    (ap (λ w. w ∷ xs) (let h : u ≡ v = cc in h) ∙ ap (λ ws. v ∷ ws) rest.0, rest.1)

record Last (p : List Piece) (text : List ℕ) (columns others : List (List Bool)) (column : List Bool) : Type 0 where
  is : IsColumn p text column
  left : AreColumns p text others

last_of : (p : List Piece) (text : List ℕ) (columns others found : List (List Bool)) (column kept : List Bool) → columns ≡ others ++ column ∷ [] → columns ≡ found ++ kept ∷ [] →
    IsColumn p text kept → AreColumns p text found → Last p text columns others column
last_of p text columns others found column kept e f h k =
    let same = last_same found others kept column (sym f ∙ e) in
    record { is = subst (λ c. IsColumn p text c) same.1 h; left = subst (λ cs. AreColumns p text cs) same.0 k }

last_column : (s : Piece) (p : List Piece) (text : List ℕ) (columns others : List (List Bool)) (column : List Bool) → is_specifier s ≡ true → AreColumns (s ∷ p) text columns →
    columns ≡ others ++ column ∷ [] → Last p text columns others column
last_column (Byte b) p text columns others column e h f = absurd cc
last_column Star p text columns others column e h f = last_of p text columns others h.0 column h.1 f h.2 h.3 h.4
last_column Dots p text columns others column e h f = last_of p text columns others h.0 column h.1 f h.2 h.3 h.4
last_column (Place k) p text columns others column e h f = last_of p text columns others h.0 column h.1 f h.2 h.3 h.4

one_more : (done : Texts) (x : List ℕ) (o : Option Texts) → option_map (λ us. (done ++ x ∷ []) ++ us) o ≡ option_map (λ us. done ++ us) (option_map (λ us. x ∷ us) o)
one_more done x None = refl
one_more done x (Some us) = ap (λ ts. Some ts) (append_assoc done (x ∷ []) us)

some_column : (others columns : List (List Bool)) (column : List Bool) → columns ≡ others ++ column ∷ [] → 1 ≤ length columns
some_column others columns column e = omega (arith, ap length e, length-append others (column ∷ []))

needs_column : (s : Piece) (p : List Piece) (text : List ℕ) (columns : List (List Bool)) → is_specifier s ≡ true → AreColumns (s ∷ p) text columns → 1 ≤ length columns
needs_column (Byte b) p text columns e h = absurd cc
needs_column Star p text columns e h = some_column h.0 columns h.1 h.2
needs_column Dots p text columns e h = some_column h.0 columns h.1 h.2
needs_column (Place k) p text columns e h = some_column h.0 columns h.1 h.2

walk_specifier : (pieces : List Piece) (text : List ℕ) (s : Piece) (p : List Piece) (at place : ℕ) (columns others : List (List Bool)) (column : List Bool) (done : Texts) (x : List ℕ) →
    is_specifier s ≡ true → Walking pieces text (s ∷ p) at columns done → (1 ≤ length columns → columns ≡ others ++ column ∷ []) → (at < length column → IsFirst column at place) →
    (at ≤ place → place ≤ length text → x ≡ take (place - at) (drop at text)) → Walking pieces text p place others (done ++ x ∷ [])
walk_specifier pieces text s p at place columns others column done x e h f first part =
    let l = last_column s p text columns others column e h.left (f (needs_column s p text columns e h.left)) in
    let there = first (omega (arith, l.is.size, h.within)) in
    let a = ahead s p text column at place e l.is there h.within h.fit in
    let is = part there.low a.within in
    record {
      within = a.within;
      left = l.left;
      fit = a.fit;
      whole = one_more done x (texts p (drop place text)) ∙ ap (λ y. option_map (λ us. done ++ us) (option_map (λ us. y ∷ us) (texts p (drop place text)))) is
          ∙ ap (λ o. option_map (λ us. done ++ us) o) (sym a.whole) ∙ h.whole;
    }

byte_fits : (b : ℕ) (p : List Piece) (t : List ℕ) → fits (Byte b ∷ p) t ≡ true → (1 ≤ length t) × (texts (Byte b ∷ p) t ≡ texts p (drop 1 t))
byte_fits b p [] e = absurd cc
byte_fits b p (x ∷ t) e = (omega arith, go (b == x) e)
  where
    go : (c : Bool) → is_some (cond c (texts p t) None) ≡ true → cond c (texts p t) None ≡ texts p t
    go true f = refl
    go false f = absurd cc

walk_byte : (pieces : List Piece) (text : List ℕ) (b : ℕ) (p : List Piece) (at : ℕ) (columns : List (List Bool)) (done : Texts) →
    Walking pieces text (Byte b ∷ p) at columns done → Walking pieces text p (at + 1) columns done
walk_byte pieces text b p at columns done h =
    let f = byte_fits b p (drop at text) h.fit in
    let there = drop-drop 1 at text in
    record {
      within = omega (arith, f.0, length-drop at text, h.within);
      left = h.left;
      fit = ap (λ t. fits p t) (sym there) ∙ ap is_some (sym f.1) ∙ h.fit;
      whole = ap (λ t. option_map (λ us. done ++ us) (texts p t)) (sym there) ∙ ap (λ o. option_map (λ us. done ++ us) o) (sym f.1) ∙ h.whole;
    }

walk_other : (pieces : List Piece) (text : List ℕ) (s : Piece) (p : List Piece) (at : ℕ) (columns : List (List Bool)) (done : Texts) → is_specifier s ≡ false →
    Walking pieces text (s ∷ p) at columns done → Walking pieces text p (at + 1) columns done
walk_other pieces text (Byte b) p at columns done e h = walk_byte pieces text b p at columns done h
walk_other pieces text Star p at columns done e h = absurd cc
walk_other pieces text Dots p at columns done e h = absurd cc
walk_other pieces text (Place k) p at columns done e h = absurd cc

-- at a place of the pattern
pub specifier_at : (pieces : List Piece) (text : List ℕ) (k : ℕ) (d : Piece) (at place : ℕ) (columns others : List (List Bool)) (column : List Bool) (done : Texts) (x : List ℕ) → k < length pieces →
    is_specifier (get_or pieces k d) ≡ true → Walking pieces text (drop k pieces) at columns done → (1 ≤ length columns → columns ≡ others ++ column ∷ []) → (at < length column → IsFirst column at place) →
    (at ≤ place → place ≤ length text → x ≡ take (place - at) (drop at text)) → Walking pieces text (drop (k + 1) pieces) place others (done ++ x ∷ [])
specifier_at pieces text k d at place columns others column done x low e h f first part =
    walk_specifier pieces text (get_or pieces k d) (drop (k + 1) pieces) at place columns others column done x e (subst (λ p. Walking pieces text p at columns done) (drop_more pieces k d low) h) f first part

pub byte_at : (pieces : List Piece) (text : List ℕ) (k : ℕ) (d : Piece) (at : ℕ) (columns : List (List Bool)) (done : Texts) → k < length pieces →
    is_specifier (get_or pieces k d) ≡ false → Walking pieces text (drop k pieces) at columns done → Walking pieces text (drop (k + 1) pieces) (at + 1) columns done
byte_at pieces text k d at columns done low e h =
    walk_other pieces text (get_or pieces k d) (drop (k + 1) pieces) at columns done e (subst (λ p. Walking pieces text p at columns done) (drop_more pieces k d low) h)

-- a byte passed before the first specifier
abbrev pub Behind : List Piece → ℕ → Type 0
Behind pieces k = (text : List ℕ) → fits pieces text ≡ true → texts (drop k pieces) (drop k text) ≡ texts pieces text

behind_byte : (s : Piece) (p : List Piece) (t : List ℕ) → is_specifier s ≡ false → fits (s ∷ p) t ≡ true → texts (s ∷ p) t ≡ texts p (drop 1 t)
behind_byte (Byte b) p t e h = let f = byte_fits b p t h in f.1
behind_byte Star p t e h = absurd cc
behind_byte Dots p t e h = absurd cc
behind_byte (Place k) p t e h = absurd cc

pub behind_more : (pieces : List Piece) (k : ℕ) (d : Piece) → k < length pieces → is_specifier (get_or pieces k d) ≡ false → Behind pieces k → Behind pieces (k + 1)
behind_more pieces k d low e h text fit =
    let here = drop_more pieces k d low in
    let as_before = ap (λ p. texts p (drop k text)) (sym here) ∙ h text fit in
    ap (λ t. texts (drop (k + 1) pieces) t) (sym (drop-drop 1 k text))
    ∙ sym (behind_byte (get_or pieces k d) (drop (k + 1) pieces) (drop k text) e (ap is_some as_before ∙ fit))
    ∙ as_before

nothing_left : (t : List ℕ) → fits [] t ≡ true → texts [] t ≡ Some []
nothing_left [] e = refl
nothing_left (x ∷ t) e = absurd cc

pub walked : (pieces : List Piece) (text : List ℕ) (at : ℕ) (columns : List (List Bool)) (done : Texts) → Walking pieces text [] at columns done → Some done ≡ texts pieces text
walked pieces text at columns done h =
    ap (λ ts. Some ts) (sym (append-nil done)) ∙ ap (λ o. option_map (λ us. done ++ us) o) (sym (nothing_left (drop at text) h.fit)) ∙ h.whole
