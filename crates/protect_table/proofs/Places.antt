-- How the rows of a word go on by one byte.
use Rattle.std.proofs.Common.{◌≡◌, ◌≢◌, ℕ, zero, suc, ◌+◌, ◌<◌, ◌≤◌, Bool, true, false, cond, List, [], ◌∷◌, length, slice_set, slice_index, inl, inr, drop, refl, sym, ap, subst, get_or, ◌∙◌, arith}
use Rattle.std.specs.Prelude.{◌&&◌, ◌||◌, ◌==◌, nat_le}
use Rattle.std.proofs.lemmas.Bool.{cases_lt, and_parts}
use Rattle.std.proofs.lemmas.Bool.Decides.{nat_tests}
use Rattle.std.proofs.lemmas.Grind.{get_or-set_at}
use Rattle.std.proofs.lemmas.List.{get_or-set_other, at_drop_all}
use Rattle.std.proofs.Math.Seq.{drop-cons}
use Rattle.depot_path.specs.Name.{is_name}
use Rattle.protect_table.specs.Wildcard.{is_empty, at_some_place, fits_next, fits_word, IsRow, with_place, at_end}

next_step : (star : Bool) (b c : ℕ) (rest : List ℕ → Bool) (text : List ℕ) →
    fits_next star b rest (c ∷ text) ≡ cond star (rest (c ∷ text) || fits_next star b rest text) ((b == c) && rest text)
next_step true b c rest text = refl
next_step false b c rest text = refl

pub step : (b : ℕ) (word : List ℕ) (c : ℕ) (text : List ℕ) →
    fits_word (b ∷ word) (c ∷ text) ≡ with_place b c (fits_word word (c ∷ text)) (fits_word word text) (fits_word (b ∷ word) text)
step b word c text = next_step (b == 0x2A) b c (fits_word word) text

next_end : (star : Bool) (b : ℕ) (rest : List ℕ → Bool) → fits_next star b rest [] ≡ (star && rest [])
next_end true b rest = refl
next_end false b rest = refl

pub end_step : (b : ℕ) (word : List ℕ) → fits_word (b ∷ word) [] ≡ at_end b (fits_word word [])
end_step b word = next_end (b == 0x2A) b (fits_word word)

-- at a place of the text
pub step_at : (b : ℕ) (word text : List ℕ) (k : ℕ) (d : ℕ) → k < length text →
    fits_word (b ∷ word) (drop k text) ≡ with_place b (get_or text k d) (fits_word word (drop k text)) (fits_word word (drop (k + 1) text)) (fits_word (b ∷ word) (drop (k + 1) text))
step_at b word [] k d low = absurd (omega arith)
step_at b word (c ∷ text) zero d low = step b word c text
step_at b word (c ∷ text) (suc k) d low = let next : suc k + 1 ≡ suc (k + 1) = omega arith in rw next (step_at b word text k d (omega arith))

other_place : (row : List Bool) (k j : ℕ) (r : Bool) → (j ≡ k → ⊥) → get_or (slice_set row k r) j false ≡ get_or row j false
other_place row k j r e = get_or-set_other row k j r false e

-- ---- the row of the empty word

not_empty : (k : ℕ) (t : List ℕ) → k < length t → is_empty (drop k t) ≡ false
not_empty k [] low = absurd (omega arith)
not_empty zero (b ∷ t) low = refl
not_empty (suc k) (b ∷ t) low = not_empty k t (omega arith)

pub record Begun (text : List ℕ) (row : List Bool) (at : ℕ) : Type 0 where
  pub within : at ≤ length text
  pub done : (k : ℕ) → at ≤ k → k ≤ length text → get_or row k false ≡ fits_word [] (drop k text)

pub begun : (text : List ℕ) (row : List Bool) (at : ℕ) → at ≡ length text → length text < length row → Begun text (slice_set row at true) at
begun text row at e room = record {
  within = omega (arith, e);
  done = λ k low up.
      let same : k ≡ at = omega (arith, e, low, up) in
      get_or-set_at row at k true false same (omega (arith, e)) ∙ sym (at_drop_all is_empty text k (omega (arith, e, low)));
}

pub begun_more : (text : List ℕ) (row : List Bool) (k at : ℕ) → at ≡ k + 1 → length text < length row → Begun text row at → Begun text (slice_set row k false) k
begun_more text row k at e room h = record {
  within = omega (arith, h.within, e);
  done = λ j low up. elim (cases_lt k j) [
    | inl lt ↦ other_place row k j false (λ same. omega (arith, same, lt)) ∙ h.done j (omega (arith, lt, e)) up
    | inr le ↦
        let same : j ≡ k = omega (arith, low, le) in
        get_or-set_at row k j false false same (omega (arith, h.within, e)) ∙ sym (not_empty j text (omega (arith, h.within, e, same)))
  ];
}

-- ---- a row after one place more

pub record Added (byte : ℕ) (word text : List ℕ) (row : List Bool) (at : ℕ) (below : Bool) : Type 0 where
  pub under : below ≡ fits_word word (drop at text)
  pub before : (k : ℕ) → k < at → get_or row k false ≡ fits_word word (drop k text)
  pub done : (k : ℕ) → at ≤ k → k ≤ length text → get_or row k false ≡ fits_word (byte ∷ word) (drop k text)

pub record Adding (byte : ℕ) (text : List ℕ) (initial row : List Bool) (at : ℕ) (below : Bool) : Type 0 where
  pub within : at ≤ length text
  pub each : (word : List ℕ) → IsRow word text initial → Added byte word text row at below

pub adding_begins : (byte : ℕ) (text : List ℕ) (row : List Bool) (at : ℕ) (below r : Bool) → at ≡ length text → length text < length row →
    below ≡ get_or row at false → r ≡ at_end byte below → Adding byte text row (slice_set row at r) at below
adding_begins byte text row at below r e room b f = record {
  within = omega (arith, e);
  each = λ word is. record {
    under = b ∙ is.at at (omega (arith, e));
    before = λ k low. other_place row at k r (λ same. omega (arith, same, low)) ∙ is.at k (omega (arith, e, low));
    done = λ k low up.
        let same : k ≡ at = omega (arith, e, low, up) in
        let here : below ≡ fits_word word [] = b ∙ is.at at (omega (arith, e)) ∙ at_drop_all (fits_word word) text at (omega (arith, e)) in
        get_or-set_at row at k r false same (omega (arith, e)) ∙ f ∙ ap (at_end byte) here ∙ sym (end_step byte word)
        ∙ sym (at_drop_all (fits_word (byte ∷ word)) text k (omega (arith, e, low)));
  };
}

add_at : (byte : ℕ) (word text : List ℕ) (row : List Bool) (k : ℕ) (below r : Bool) (d : ℕ) → Added byte word text row (k + 1) below →
    k + 1 ≤ length text → length text < length row → r ≡ with_place byte (get_or text k d) (get_or row k false) below (get_or row (k + 1) false) →
    Added byte word text (slice_set row k r) k (get_or row k false)
add_at byte word text row k below r d h high room e = record {
  under = h.before k (omega arith);
  before = λ j low. other_place row k j r (λ same. omega (arith, same, low)) ∙ h.before j (omega (arith, low));
  done = λ j low up. elim (cases_lt k j) [
    | inl lt ↦ other_place row k j r (λ same. omega (arith, same, lt)) ∙ h.done j (omega (arith, lt)) up
    | inr le ↦
        let same : j ≡ k = omega (arith, low, le) in
        get_or-set_at row k j r false same (omega arith) ∙ e
        ∙ ap (λ c. with_place byte (get_or text k d) c below (get_or row (k + 1) false)) (h.before k (omega arith))
        ∙ ap (λ c. with_place byte (get_or text k d) (fits_word word (drop k text)) c (get_or row (k + 1) false)) h.under
        ∙ ap (λ c. with_place byte (get_or text k d) (fits_word word (drop k text)) (fits_word word (drop (k + 1) text)) c) (h.done (k + 1) (omega arith) high)
        ∙ sym (step_at byte word text k d (omega arith))
        ∙ ap (λ i. fits_word (byte ∷ word) (drop i text)) (sym same)
  ];
}

pub adding : (byte : ℕ) (text : List ℕ) (initial row : List Bool) (k at : ℕ) (below r : Bool) (d : ℕ) → at ≡ k + 1 → Adding byte text initial row at below →
    length text < length row → r ≡ with_place byte (get_or text k d) (get_or row k false) below (get_or row (k + 1) false) →
    Adding byte text initial (slice_set row k r) k (get_or row k false)
adding byte text initial row k at below r d e h room f = record {
  within = omega (arith, h.within, e);
  each = λ word is. add_at byte word text row k below r d (subst (λ i. Added byte word text row i below) e (h.each word is)) (omega (arith, h.within, e)) room f;
}

-- the row of a word of one byte more
pub row_more : (word text : List ℕ) (row : List Bool) (k at : ℕ) → at ≡ k + 1 → k < length word → IsRow (get_or word k 0 ∷ drop at word) text row → IsRow (drop k word) text row
row_more word text row k at e low h =
    let next : at ≡ suc k = omega (arith, e) in
    subst (λ w. IsRow w text row) (ap (λ i. get_or word k 0 ∷ drop i word) next ∙ sym (drop-cons word k 0 low)) h

-- ---- the bytes before the first `*`

next_differs : (b c : ℕ) (rest : List ℕ → Bool) (text : List ℕ) (star same : Bool) → star ≡ false → (b == c) ≡ same → fits_next star b rest (c ∷ text) ≡ (same && rest text)
next_differs b c rest text true same e f = absurd cc
next_differs b c rest text false same e f = ap (λ s. s && rest text) f

star_no : (b : ℕ) → b ≢ 42 → (b == 42) ≡ false
star_no b ne = grind (arith, nat_tests)

pub passes : (word text : List ℕ) → 1 ≤ length word → 1 ≤ length text → slice_index word 0 ≢ 42 → slice_index text 0 ≡ slice_index word 0 →
    fits_word word text ≡ fits_word (drop 1 word) (drop 1 text)
passes [] text h k ne e = absurd (omega arith)
passes (b ∷ word) [] h k ne e = absurd (omega arith)
passes (b ∷ word) (c ∷ text) h k ne e =
    let same : (b == c) ≡ true = grind (arith, nat_tests) in
    next_differs b c (fits_word word) text (b == 42) true (star_no b ne) same

pub differs : (word text : List ℕ) → 1 ≤ length word → 1 ≤ length text → slice_index word 0 ≢ 42 → slice_index text 0 ≢ slice_index word 0 → fits_word word text ≡ false
differs [] text h k ne e = absurd (omega arith)
differs (b ∷ word) [] h k ne e = absurd (omega arith)
differs (b ∷ word) (c ∷ text) h k ne e =
    let same : (b == c) ≡ false = grind (arith, nat_tests) in
    next_differs b c (fits_word word) text (b == 42) false (star_no b ne) same

pub ends : (word text : List ℕ) → 1 ≤ length word → length text < 1 → slice_index word 0 ≢ 42 → fits_word word text ≡ false
ends [] text h k ne = absurd (omega arith)
ends (b ∷ word) (c ∷ text) h k ne = absurd (omega arith)
ends (b ∷ word) [] h k ne = end_step b word ∙ ap (λ s. s && fits_word word []) (star_no b ne)

anywhere : (t : List ℕ) → at_some_place is_empty t ≡ true
anywhere [] = refl
anywhere (b ∷ t) = anywhere t

pub any_text : (word text : List ℕ) → length word ≡ 1 → slice_index word 0 ≡ 42 → fits_word word text ≡ true
any_text [] text h e = absurd (omega arith)
any_text (b ∷ c ∷ word) text h e = absurd (omega arith)
any_text (b ∷ []) text h e = ap (λ c. fits_word (c ∷ []) text) e ∙ anywhere text

-- ---- names

at_most : (a : Bool) (n : ℕ) → (a && nat_le n 128) ≡ true → n ≤ 128
at_most true n e = grind (arith, nat_tests)
at_most false n e = absurd cc

pub short_name : (text : List ℕ) → is_name text ≡ true → length text ≤ 128
short_name text e = at_most _ (length text) (and_parts _ _ (and_parts _ _ (and_parts _ _ (and_parts _ _ e).0).0).0).0
