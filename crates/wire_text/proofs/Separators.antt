-- Separators in a text.
use Rattle.std.proofs.Common.{◌≡◌, ℕ, zero, suc, ◌+◌, ◌-◌, ◌<◌, ◌≤◌, Bool, true, false, cond, eqb, List, [], ◌∷◌, ◌++◌, length, get_or, take, drop, Some, None, refl, sym, ap, ◌∙◌, arith, add-one, zero-le, length-append, append_assoc}
use Rattle.std.specs.Prelude.{nat_lt}
use Rattle.std.proofs.lemmas.List.{drop_at, drop_all, drop_more, take_rest, take-append-drop, length-take-le, length-drop, get_or-drop}
use Rattle.std.proofs.lemmas.Bool.{lt-ltb, le-ltb, ltb-true, eqb-true, eq-eqb, false_from_ne_true}
use Rattle.wire_text.specs.Parts.{upto, past, is_in, IsFree, last_cut}

-- no separator stands before a place
abbrev pub Before : ℕ → List ℕ → ℕ → Type 0
Before sep text k = (j : ℕ) → j < k → (eqb (get_or text j 0) sep ≡ true → ⊥)

pub eqb_same : (n : ℕ) → eqb n n ≡ true
eqb_same n = eq-eqb n n refl

pub free_append : (sep : ℕ) (a b : List ℕ) → IsFree sep a → IsFree sep b → IsFree sep (a ++ b)
free_append sep [] b f g = g
free_append sep (x ∷ a) b f g = (f.0, free_append sep a b f.1 g)

-- the first separator is where one stands and none before
pub upto_at : (sep : ℕ) (text : List ℕ) (k : ℕ) → k < length text → Before sep text k → eqb (get_or text k 0) sep ≡ true → upto sep text ≡ take k text
upto_at sep [] k lt none is = absurd (omega arith)
upto_at sep (b ∷ text) zero lt none is = rw is refl
upto_at sep (b ∷ text) (suc k) lt none is =
    rw (false_from_ne_true (eqb b sep) (none 0 (omega arith)))
    (ap (λ (t : List ℕ). b ∷ t) (upto_at sep text k (omega arith) (λ j l. none (suc j) (omega arith)) is))

pub free_from : (sep : ℕ) (text : List ℕ) → Before sep text (length text) → IsFree sep text
free_from sep [] h = tt
free_from sep (b ∷ text) h = (false_from_ne_true (eqb b sep) (h 0 (omega arith)), free_from sep text (λ j lt. h (suc j) (omega arith)))

pub upto_none : (sep : ℕ) (text : List ℕ) → IsFree sep text → upto sep text ≡ text
upto_none sep [] free = refl
upto_none sep (b ∷ text) free = rw free.0 (ap (λ (t : List ℕ). b ∷ t) (upto_none sep text free.1))

pub not_in : (sep : ℕ) (text : List ℕ) → IsFree sep text → is_in sep text ≡ false
not_in sep text free = ap (λ (t : List ℕ). nat_lt (length t) (length text)) (upto_none sep text free) ∙ le-ltb (length text) (length text) (omega arith)

pub past_none : (sep : ℕ) (text : List ℕ) → IsFree sep text → past sep text ≡ []
past_none sep text free = ap (λ (t : List ℕ). drop (length t + 1) text) (upto_none sep text free) ∙ drop_all (length text + 1) text (omega arith)

-- a text that a separator ends, and what stands behind it
pub upto_line : (sep : ℕ) (line more : List ℕ) → IsFree sep line → upto sep (line ++ sep ∷ more) ≡ line
upto_line sep [] more free = rw (eqb_same sep) refl
upto_line sep (b ∷ line) more free = rw free.0 (ap (λ (t : List ℕ). b ∷ t) (upto_line sep line more free.1))

drop_line : (sep : ℕ) (line more : List ℕ) → drop (length line + 1) (line ++ sep ∷ more) ≡ more
drop_line sep line more =
    ap (drop (length line + 1)) (sym (append_assoc line (sep ∷ []) more)) ∙ drop_at (line ++ sep ∷ []) more (length line + 1) (length-append line (sep ∷ []))

pub past_line : (sep : ℕ) (line more : List ℕ) → IsFree sep line → past sep (line ++ sep ∷ more) ≡ more
past_line sep line more free =
    ap (λ (t : List ℕ). drop (length t + 1) (line ++ sep ∷ more)) (upto_line sep line more free) ∙ drop_line sep line more

pub in_line : (sep : ℕ) (line more : List ℕ) → IsFree sep line → is_in sep (line ++ sep ∷ more) ≡ true
in_line sep line more free =
    ap (λ (t : List ℕ). nat_lt (length t) (length (line ++ sep ∷ more))) (upto_line sep line more free)
    ∙ lt-ltb (length line) (length (line ++ sep ∷ more)) (omega (arith, length-append line (sep ∷ more)))

-- bytes without a separator only lengthen what stands before it
pub upto_long : (sep : ℕ) (line more : List ℕ) → IsFree sep line → length line ≤ length (upto sep (line ++ more))
upto_long sep [] more free = zero-le
upto_long sep (b ∷ line) more free = rw free.0 (omega (arith, upto_long sep line more free.1))

free_cond : (sep b : ℕ) (text : List ℕ) (t : Bool) → eqb b sep ≡ t → IsFree sep text → IsFree sep (cond t [] (b ∷ text))
free_cond sep b text true e free = tt
free_cond sep b text false e free = (e, free)

pub free_upto : (sep : ℕ) (text : List ℕ) → IsFree sep (upto sep text)
free_upto sep [] = tt
free_upto sep (b ∷ text) = free_cond sep b (upto sep text) (eqb b sep) refl (free_upto sep text)

in_tail : (sep b : ℕ) (text : List ℕ) → eqb b sep ≡ false → is_in sep (b ∷ text) ≡ true → is_in sep text ≡ true
in_tail sep b text differs is =
    let long : nat_lt (length (b ∷ upto sep text)) (length (b ∷ text)) ≡ true = rw differs at is in
    lt-ltb (length (upto sep text)) (length text) (omega (arith, ltb-true (length (b ∷ upto sep text)) (length (b ∷ text)) long))

split_on : (sep b : ℕ) (text : List ℕ) → eqb b sep ≡ false → text ≡ upto sep text ++ sep ∷ past sep text → b ∷ text ≡ upto sep (b ∷ text) ++ sep ∷ past sep (b ∷ text)
split_on sep b text differs h = rw (differs, add-one) (ap (λ (t : List ℕ). b ∷ t) (h ∙ ap (λ (n : ℕ). upto sep text ++ sep ∷ drop n text) (add-one (length (upto sep text)))))

split_there : (sep b : ℕ) (text : List ℕ) → eqb b sep ≡ true → b ∷ text ≡ upto sep (b ∷ text) ++ sep ∷ past sep (b ∷ text)
split_there sep b text is = rw is (ap (λ (x : ℕ). x ∷ text) (eqb-true b sep is))

split_either : (sep b : ℕ) (text : List ℕ) (t : Bool) → eqb b sep ≡ t → (eqb b sep ≡ false → text ≡ upto sep text ++ sep ∷ past sep text) → b ∷ text ≡ upto sep (b ∷ text) ++ sep ∷ past sep (b ∷ text)
split_either sep b text true e h = split_there sep b text e
split_either sep b text false e h = split_on sep b text e (h e)

-- a text with a separator: what stands before it, and behind it
pub split_upto : (sep : ℕ) (text : List ℕ) → is_in sep text ≡ true → text ≡ upto sep text ++ sep ∷ past sep text
split_upto sep [] is = absurd cc
split_upto sep (b ∷ text) is = split_either sep b text (eqb b sep) refl (λ differs. split_upto sep text (in_tail sep b text differs is))

-- the first separator of a text, found by its place
module _ (sep : ℕ) (text : List ℕ) (k : ℕ) (lt : k < length text) (none : Before sep text k) (is : eqb (get_or text k 0) sep ≡ true) where
  pub found_past : take (length text - (k + 1)) (drop (k + 1) text) ≡ past sep text
  found_past = take_rest text (k + 1) ∙ ap (λ (n : ℕ). drop (n + 1) text) (sym (ap (λ (t : List ℕ). length t) (upto_at sep text k lt none is) ∙ length-take-le k text (omega arith)))

  pub found_in : is_in sep text ≡ true
  found_in =
      ap (λ (t : List ℕ). nat_lt (length t) (length text)) (upto_at sep text k lt none is)
      ∙ lt-ltb (length (take k text)) (length text) (omega (arith, length-take-le k text (omega arith)))

-- the last separator of a text
pub last_none : (sep : ℕ) (text : List ℕ) → IsFree sep text → last_cut sep text ≡ None
last_none sep [] free = refl
last_none sep (b ∷ text) free = rw (last_none sep text free.1, free.0) refl

pub last_line : (sep : ℕ) (before behind : List ℕ) → IsFree sep behind → last_cut sep (before ++ sep ∷ behind) ≡ Some (record { before = before; behind = behind })
last_line sep [] behind free = rw (last_none sep behind free, eqb_same sep) refl
last_line sep (b ∷ before) behind free = rw (last_line sep before behind free) refl

split_here : (sep : ℕ) (text : List ℕ) (k : ℕ) → k < length text → eqb (get_or text k 0) sep ≡ true → text ≡ take k text ++ sep ∷ drop (k + 1) text
split_here sep text k lt is = sym (take-append-drop k text) ∙ ap (λ (t : List ℕ). take k text ++ t) (drop_more text k 0 lt ∙ ap (λ (b : ℕ). b ∷ drop (k + 1) text) (eqb-true (get_or text k 0) sep is))

-- found by its place
pub last_at : (sep : ℕ) (text : List ℕ) (k : ℕ) → k < length text → ((j : ℕ) → k + 1 ≤ j → j < length text → (eqb (get_or text j 0) sep ≡ true → ⊥)) → eqb (get_or text k 0) sep ≡ true
    → last_cut sep text ≡ Some (record { before = take k text; behind = take (length text - (k + 1)) (drop (k + 1) text) })
last_at sep text k lt none is =
    let free : IsFree sep (drop (k + 1) text) = free_from sep (drop (k + 1) text) (λ j l h. none (k + 1 + j) (omega arith) (omega (arith, length-drop (k + 1) text)) (ap (λ (b : ℕ). eqb b sep) (sym (get_or-drop (k + 1) text j 0)) ∙ h)) in
    ap (last_cut sep) (split_here sep text k lt is)
    ∙ (last_line sep (take k text) (drop (k + 1) text) free
    ∙ ap (λ (t : List ℕ). Some (record { before = take k text; behind = t })) (sym (take_rest text (k + 1))))
