-- The words of a line, read from the front.
use Rattle.std.proofs.Common.{◌≡◌, ℕ, zero, suc, ◌+◌, List, [], ◌∷◌, length, drop, Option, Some, refl, sym, ap, ◌∙◌}
use Rattle.std.proofs.lemmas.Bool.{ne_eqb, eq-eqb}
use Rattle.wire_text.specs.Parts.{upto, past}
use Rattle.wire_text.specs.Words.{words_from, with_word, plain_word, quoted_word}

pub words_on : (k : ℕ) (text : List ℕ) → words_from k text ≡ words_from 0 (drop k text)
words_on zero text = refl
words_on (suc k) [] = refl
words_on (suc k) (b ∷ text) = words_on k text

module _ (first : ℕ) (text after : List ℕ) (is : text ≡ first ∷ after) where
  pub quoted_says : (word behind : List ℕ) → (first ≡ 0x20 → ⊥) → first ≡ 0x22 → quoted_word after ≡ Some word → behind ≡ past 0x22 after → words_from 0 text ≡ with_word (Some word) (words_from 0 behind)
  quoted_says word behind differs e q at =
      rw (is, ne_eqb first 0x20 differs, eq-eqb first 0x22 e, q, at) (ap (with_word (Some word)) (words_on (length (upto 0x22 after) + 1) after))

  step : (first ≡ 0x20 → ⊥) → (first ≡ 0x22 → ⊥) → words_from 0 (first ∷ after) ≡ with_word (plain_word (first ∷ after)) (words_from (length (upto 0x20 after)) after)
  step differs other = rw (ne_eqb first 0x20 differs, ne_eqb first 0x22 other) refl

  pub plain_says : (word behind : List ℕ) → (first ≡ 0x20 → ⊥) → (first ≡ 0x22 → ⊥) → plain_word text ≡ Some word → behind ≡ drop (length (upto 0x20 text)) text → words_from 0 text ≡ with_word (Some word) (words_from 0 behind)
  plain_says word behind differs other q at =
      let begins : upto 0x20 text ≡ first ∷ upto 0x20 after = rw (is, ne_eqb first 0x20 differs) refl in
      let behind_is : behind ≡ drop (length (upto 0x20 after)) after = at ∙ (ap (λ (t : List ℕ). drop (length t) text) begins ∙ ap (drop (length (first ∷ upto 0x20 after))) is) in
      let q' : plain_word (first ∷ after) ≡ Some word = ap plain_word (sym is) ∙ q in
      ap (words_from 0) is ∙ (step differs other ∙ (ap (λ (w : Option (List ℕ)). with_word w (words_from (length (upto 0x20 after)) after)) q' ∙ ap (with_word (Some word)) (words_on (length (upto 0x20 after)) after ∙ ap (words_from 0) (sym behind_is))))
