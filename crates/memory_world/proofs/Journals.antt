-- Journals as they were at earlier moments.
use Rattle.std.proofs.Common.{◌≡◌, ◌≤◌, ◌<◌, ◌+◌, ◌-◌, ◌++◌, ℕ, zero, suc, List, [], ◌∷◌, length, take, min, refl, sym, ap, subst, ◌∙◌, arith, length-append, length-take}
use Rattle.std.specs.List.{concat}
use Rattle.std.proofs.lemmas.List.{take_more, take_all}
use Rattle.std.proofs.lemmas.List.Folds.{concat-append}
use Rattle.outside_api.specs.Link.{text_of, IsEarlier}
use Rattle.memory_world.specs.Link.{journal_of, journal_then}

-- the whole journal
pub whole_then : (texts : List (List ℕ)) (newest bytes : ℕ) → newest ≡ length texts - 1 → bytes ≡ length (text_of texts newest) → journal_then texts newest bytes ≡ journal_of texts
whole_then [] newest bytes e long =
    let none : newest ≡ 0 = e in
    let empty : bytes ≡ 0 = omega (arith, long) in
    rw (none, empty) refl
whole_then (text ∷ later) newest bytes e long =
    let texts = text ∷ later in
    let last : take bytes (text_of texts newest) ≡ text_of texts newest = take_all bytes (text_of texts newest) (omega (arith, long)) in
    ap (λ (t : List ℕ). take newest texts ++ t ∷ []) last
    ∙ (sym (take_more texts newest [] (omega (arith, e))) ∙ take_all (newest + 1) texts (omega (arith, e)))

-- a journal at a moment is an earlier one
pub earlier_then : (texts : List (List ℕ)) (newest bytes : ℕ) → newest ≤ length texts - 1 → IsEarlier (journal_then texts newest bytes) (journal_of texts)
earlier_then [] newest bytes there =
    let none : newest ≡ 0 = omega (arith, there) in
    record { newest = newest; bytes = bytes; there = omega (arith, none); is = rw none refl }
earlier_then (text ∷ later) newest bytes there = record { newest = newest; bytes = bytes; there = there; is = refl }

-- a journal is the journal as it is
pub earlier_same : (texts : List (List ℕ)) → IsEarlier (journal_of texts) (journal_of texts)
earlier_same texts =
    let newest = length texts - 1 in
    let bytes = length (text_of texts newest) in
    subst (λ (j : List (List ℕ)). IsEarlier j (journal_of texts)) (whole_then texts newest bytes refl refl) (earlier_then texts newest bytes (omega arith))

-- a journal that stays as it is grows by nothing
pub grows_none : (old new before : List (List ℕ)) → new ≡ old → before ≡ journal_of old → (now : List (List ℕ)) × (now ≡ journal_of new) × IsEarlier before now
grows_none old new before same is =
    (journal_of old, ap journal_of (sym same), subst (λ (j : List (List ℕ)). IsEarlier j (journal_of old)) (sym is) (earlier_same old))

-- how many generations a journal has at a moment
pub length_then : (texts : List (List ℕ)) (newest bytes : ℕ) → newest ≤ length texts - 1 → length (journal_then texts newest bytes) ≡ newest + 1
length_then texts newest bytes there =
    omega (arith, length-append (take newest texts) (take bytes (text_of texts newest) ∷ []), length-take newest texts, there)

concat_one : (text : List ℕ) → length (concat (text ∷ [])) ≡ length text
concat_one text = omega (arith, length-append text [])

-- how many bytes a journal has at a moment
pub total_then : (texts : List (List ℕ)) (newest bytes : ℕ) → length (concat (journal_then texts newest bytes)) ≡ length (concat (take newest texts)) + min bytes (length (text_of texts newest))
total_then texts newest bytes =
    let last = take bytes (text_of texts newest) in
    omega (arith, ap length (concat-append (take newest texts) (last ∷ [])), length-append (concat (take newest texts)) (concat (last ∷ [])), concat_one last, length-take bytes (text_of texts newest))

-- how many bytes the first generations have, with one more
pub total_more : (texts : List (List ℕ)) (i : ℕ) → i < length texts → length (concat (take (i + 1) texts)) ≡ length (concat (take i texts)) + length (text_of texts i)
total_more texts i within =
    let text = text_of texts i in
    omega (arith, ap (λ (ts : List (List ℕ)). length (concat ts)) (take_more texts i [] within), ap length (concat-append (take i texts) (text ∷ [])), length-append (concat (take i texts)) (concat (text ∷ [])), concat_one text)

-- the first generations have no more bytes than all
pub total_within : (texts : List (List ℕ)) (i : ℕ) → length (concat (take i texts)) ≤ length (concat texts)
total_within [] zero = omega arith
total_within [] (suc i) = omega arith
total_within (text ∷ later) zero = omega arith
total_within (text ∷ later) (suc i) = omega (arith, total_within later i, length-append text (concat (take i later)), length-append text (concat later))

-- all generations but the last, and the last
pub total_last : (texts : List (List ℕ)) (newest : ℕ) → newest ≡ length texts - 1 → length (concat texts) ≡ length (concat (take newest texts)) + length (text_of texts newest)
total_last [] newest e = rw e refl
total_last (text ∷ later) newest e =
    let texts = text ∷ later in
    omega (arith, total_more texts newest (omega (arith, e)), ap (λ (ts : List (List ℕ)). length (concat ts)) (take_all (newest + 1) texts (omega (arith, e))))
