-- The words that a clean line has are words, without control bytes and quotes.
use Rattle.std.proofs.Common.{◌≡◌, ℕ, zero, suc, ◌+◌, ◌<◌, Bool, true, false, List, [], ◌∷◌, ◌++◌, length, drop, Option, Some, None, refl, sym, ap, subst, ◌∙◌, arith}
use Rattle.std.specs.Prelude.{◌==◌, ◌&&◌, ◌||◌, not, nat_le, nat_lt, IfSome, if◌then◌else◌}
use Rattle.std.specs.List.{list_any, list_all}
use Rattle.std.proofs.lemmas.List.{drop_all, drop_at}
use Rattle.std.proofs.lemmas.Bool.Decides.{nat_tests}
use Rattle.std.proofs.lemmas.List.Folds.{list_any-append}
use Rattle.depot_rows.specs.depot_path.Bytes.{is_among, is_control}
use Rattle.depot_rows.specs.depot_path.Utf8.{is_utf8}
use Rattle.depot_rows.proofs.spec_form.Utf8.{utf8_front, utf8_rest, ascii-cons}
use Rattle.depot_rows.specs.depot_model.declared.line.Line.TheVariants.{Words, Bad}
use Rattle.depot_rows.proofs.Keys.{number-is}
use Rattle.command_words.proofs.Giving.{both}
use Rattle.wire_text.specs.Parts.{upto, past, is_in, IsFree}
use Rattle.wire_text.specs.Words.{words_from, with_word, quoted_word, plain_word, is_apart, is_clean, line_of, line_of_words}
use Rattle.wire_text.proofs.Separators.{split_upto, free_upto}
use Rattle.grammar_laws.specs.ScriptText.{is_word, is_line}
use Rattle.std.proofs.lemmas.Bool.{not-true, and_parts, or_parts}

-- ---- parts of a clean text

plain_parts : (a b : List ℕ) → list_any is_control (a ++ b) ≡ false → (list_any is_control a ≡ false) × (list_any is_control b ≡ false)
plain_parts a b e =
    let parts : (list_any is_control a || list_any is_control b) ≡ false = sym (list_any-append is_control a b) ∙ e in
    ((or_parts _ _ parts).0, (or_parts _ _ parts).1)

clean_front : (a b : List ℕ) (x : ℕ) → x < 0x80 → is_clean (a ++ x ∷ b) ≡ true → is_clean a ≡ true
clean_front a b x low e =
    both (is_utf8 a) (not (list_any is_control a)) (utf8_front a x b low (and_parts _ _ e).0) (ap not (plain_parts a (x ∷ b) (not-true _ (and_parts _ _ e).1)).0)

clean_rest : (a b : List ℕ) (x : ℕ) → x < 0x80 → is_clean (a ++ x ∷ b) ≡ true → is_clean b ≡ true
clean_rest a b x low e =
    both (is_utf8 b) (not (list_any is_control b)) (utf8_rest a x b low (and_parts _ _ e).0)
    (ap not (or_parts (is_control x) (list_any is_control b) (plain_parts a (x ∷ b) (not-true _ (and_parts _ _ e).1)).1).1)

pub not_among : (c : ℕ) (text : List ℕ) → IsFree c text → is_among text c ≡ false
not_among c [] free = refl
not_among c (b ∷ text) free = λ i. free.0 i || not_among c text free.1 i

word_is : (word : List ℕ) → is_clean word ≡ true → IsFree 0x22 word → is_word word ≡ true
word_is word clean free = both (is_clean word) (not (is_among word 0x22)) clean (ap not (not_among 0x22 word free))

-- ---- the words of a text

abbrev AreWords : Option (List (List ℕ)) → Type 0
AreWords o = IfSome o (λ words. list_all is_word words ≡ true)

with_first : (word : List ℕ) (o : Option (List (List ℕ))) → is_word word ≡ true → AreWords o → AreWords (with_word (Some word) o)
with_first word None is all = tt
with_first word (Some words) is all = both (is_word word) (list_all is_word words) is all

-- behind the first separator
behind_it : (c : ℕ) (text : List ℕ) → c < 0x80 → is_in c text ≡ true → is_clean text ≡ true → is_clean (past c text) ≡ true
behind_it c text low there clean = clean_rest (upto c text) (past c text) c low (sym (ap is_clean (split_upto c text there)) ∙ clean)

before_it : (c : ℕ) (text : List ℕ) → c < 0x80 → is_in c text ≡ true → is_clean text ≡ true → is_clean (upto c text) ≡ true
before_it c text low there clean = clean_front (upto c text) (past c text) c low (sym (ap is_clean (split_upto c text there)) ∙ clean)

-- a word in quotes, of which the first has been read
quoted_are : (text : List ℕ) (o : Option (List (List ℕ))) → is_clean text ≡ true → (is_clean (past 0x22 text) ≡ true → AreWords o) → AreWords (with_word (quoted_word text) o)
quoted_are text o clean rest = go (is_in 0x22 text) (is_apart (past 0x22 text)) refl
  where
    go : (there apart : Bool) → is_in 0x22 text ≡ there → AreWords (with_word (if there && apart then Some (upto 0x22 text) else None) o)
    go true true e =
        with_first (upto 0x22 text) o (word_is (upto 0x22 text) (before_it 0x22 text (omega arith) e clean) (free_upto 0x22 text)) (rest (behind_it 0x22 text (omega arith) e clean))
    go true false e = tt
    go false apart e = tt

-- ---- a word that stands plain

less : (m n : ℕ) → nat_lt (suc m) (suc n) ≡ false → nat_lt m n ≡ false
less m n e = grind (arith, nat_tests)

some : (n : ℕ) → nat_lt 0 (suc n) ≡ false → ⊥
some n e = grind (arith, nat_tests)

whole_upto : (c : ℕ) (text : List ℕ) → is_in c text ≡ false → upto c text ≡ text
whole_upto c [] e = refl
whole_upto c (b ∷ text) e = go (b == c) e (whole_upto c text)
  where
    go : (r : Bool) → nat_lt (length (if r then [] else b ∷ upto c text)) (length (b ∷ text)) ≡ false → (is_in c text ≡ false → upto c text ≡ text) → (if r then [] else b ∷ upto c text) ≡ b ∷ text
    go true h later = absurd (some (length text) h)
    go false h later = ap (λ (t : List ℕ). b ∷ t) (later (less (length (upto c text)) (length text) h))

free_where : (c : ℕ) (text : List ℕ) → is_in c text ≡ false → IsFree c text
free_where c text e = subst (IsFree c) (whole_upto c text e) (free_upto c text)

clean_spaced : (text : List ℕ) → is_clean text ≡ true → is_clean (0x20 ∷ text) ≡ true
clean_spaced text e = both (is_utf8 (0x20 ∷ text)) (not (list_any is_control text)) (ascii-cons 0x20 text (omega arith) ∙ (and_parts _ _ e).0) (and_parts (is_utf8 text) (not (list_any is_control text)) e).1

module _ (b : ℕ) (text : List ℕ) (differs : (b == 0x20) ≡ false) (clean : is_clean (b ∷ text) ≡ true) where
  first_is : upto 0x20 (b ∷ text) ≡ b ∷ upto 0x20 text
  first_is = ap (λ (r : Bool). if r then [] else b ∷ upto 0x20 text) differs

  -- the word, and what stands behind it
  plain_parted : (there : Bool) → is_in 0x20 text ≡ there → (is_clean (b ∷ upto 0x20 text) ≡ true) × (is_clean (drop (length (upto 0x20 text)) text) ≡ true)
  plain_parted true e =
      let split : text ≡ upto 0x20 text ++ 0x20 ∷ past 0x20 text = split_upto 0x20 text e in
      let whole : is_clean ((b ∷ upto 0x20 text) ++ 0x20 ∷ past 0x20 text) ≡ true = sym (ap (λ (t : List ℕ). is_clean (b ∷ t)) split) ∙ clean in
      let behind : drop (length (upto 0x20 text)) text ≡ 0x20 ∷ past 0x20 text =
      ap (drop (length (upto 0x20 text))) split ∙ drop_at (upto 0x20 text) (0x20 ∷ past 0x20 text) (length (upto 0x20 text)) refl in (
        clean_front (b ∷ upto 0x20 text) (past 0x20 text) 0x20 (omega arith) whole,
        ap is_clean behind ∙ clean_spaced (past 0x20 text) (clean_rest (b ∷ upto 0x20 text) (past 0x20 text) 0x20 (omega arith) whole),
      )
  plain_parted false e =
      let whole : upto 0x20 text ≡ text = whole_upto 0x20 text e in (
        ap (λ (t : List ℕ). is_clean (b ∷ t)) whole ∙ clean,
        ap (λ (t : List ℕ). is_clean (drop (length t) text)) whole ∙ ap is_clean (drop_all (length text) text (omega arith)),
      )

  plain_are : (o : Option (List (List ℕ))) → (is_clean (drop (length (upto 0x20 text)) text) ≡ true → AreWords o) → AreWords (with_word (plain_word (b ∷ text)) o)
  plain_are o rest = go (is_in 0x22 (upto 0x20 (b ∷ text))) refl (plain_parted (is_in 0x20 text) refl)
    where
      go : (quoted : Bool) → is_in 0x22 (upto 0x20 (b ∷ text)) ≡ quoted → (is_clean (b ∷ upto 0x20 text) ≡ true) × (is_clean (drop (length (upto 0x20 text)) text) ≡ true)
          → AreWords (with_word (if quoted then None else Some (upto 0x20 (b ∷ text))) o)
      go true e parts = tt
      go false e parts =
          with_first (upto 0x20 (b ∷ text)) o (word_is (upto 0x20 (b ∷ text)) (ap is_clean first_is ∙ parts.0) (free_where 0x22 (upto 0x20 (b ∷ text)) e)) (rest parts.1)

-- ---- all words

words_are : (k : ℕ) (text : List ℕ) → is_clean (drop k text) ≡ true → AreWords (words_from k text)
words_are k [] e = refl
words_are (suc k) (b ∷ text) e = words_are k text e
words_are zero (b ∷ text) e = go (b == 0x20) (b == 0x22) refl refl (λ k. words_are k text)
  where
    low : (c : ℕ) → (b == c) ≡ true → c < 0x80 → b < 0x80
    low c same small = let is : b ≡ c = number-is b c same in omega (arith, is, small)

    go : (space quote : Bool) → (b == 0x20) ≡ space → (b == 0x22) ≡ quote → ((k : ℕ) → is_clean (drop k text) ≡ true → AreWords (words_from k text))
        → AreWords (if space then words_from 0 text else
        (if quote then with_word (quoted_word text) (words_from (length (upto 0x22 text) + 1) text) else with_word (plain_word (b ∷ text)) (words_from (length (upto 0x20 text)) text)))
    go true quote is other later = later 0 (clean_rest [] text b (low 0x20 is (omega arith)) e)
    go false true is other later =
        quoted_are text (words_from (length (upto 0x22 text) + 1) text) (clean_rest [] text b (low 0x22 other (omega arith)) e) (later (length (upto 0x22 text) + 1))
    go false false is other later = plain_are b text is e (words_from (length (upto 0x20 text)) text) (later (length (upto 0x20 text)))

pub line_said : (line : List ℕ) → is_line (line_of line) ≡ true
line_said line = go (is_clean line) refl
  where
    few : (words : List (List ℕ)) (b : Bool) → nat_le (length words) 64 ≡ b → list_all is_word words ≡ true → is_line (if b then Words words else Bad) ≡ true
    few words true e all = both (list_all is_word words) (nat_le (length words) 64) all e
    few words false e all = refl

    told : (o : Option (List (List ℕ))) → AreWords o → is_line (line_of_words o) ≡ true
    told None all = refl
    told (Some words) all = few words (nat_le (length words) 64) refl all

    go : (b : Bool) → is_clean line ≡ b → is_line (if b then line_of_words (words_from 0 line) else Bad) ≡ true
    go true e = told (words_from 0 line) (words_are 0 line e)
    go false e = refl
