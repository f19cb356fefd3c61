-- What printed lines are read as.
use Rattle.std.proofs.Common.{◌≡◌, ℕ, ◌<◌, ◌≤◌, ◌^◌, Bool, true, false, List, [], ◌∷◌, ◌++◌, length, Option, Some, None, Ok, Err, refl, sym, ap, ◌∙◌, arith, append_assoc, length-append}
use Rattle.std.specs.Prelude.{◌==◌, ◌&&◌, ◌||◌, not, nat_le, codes, decimal, if◌then◌else◌}
use Rattle.std.specs.List.{list_any, list_all}
use Rattle.std.proofs.lemmas.Bool.Decides.{nat_tests}
use Rattle.std.proofs.lemmas.List.Folds.{list_any-append}
use Rattle.depot_rows.specs.depot_path.Bytes.{is_control}
use Rattle.depot_rows.specs.depot_path.Digits.{number_of, is_digits}
use Rattle.depot_rows.specs.depot_path.Path.{is_path, printed}
use Rattle.depot_rows.specs.depot_path.Utf8.{is_utf8}
use Rattle.depot_rows.proofs.depot_path.Paths.{prints_path}
use Rattle.depot_rows.proofs.spec_form.Utf8.{ascii-cons, utf8_both}
use Rattle.depot_rows.specs.depot_model.declared.line.Line.{Line}
use Rattle.depot_rows.specs.depot_model.declared.line.Line.TheVariants.{Words, Bad}
use Rattle.depot_facts.proofs.Decimals.{written, number_decimal}
use Rattle.command_words.proofs.Giving.{both}
use Rattle.wire_text.specs.Parts.{upto, past, IsFree, last_cut}
use Rattle.wire_text.specs.LineKind.{kind_of, length_of, path_in, path_within, is_within, file_kind, block_kind, clear_kind, input_kind, kind_by_word}
use Rattle.wire_text.specs.Words.{words_from, quoted_word, with_word, is_apart, is_clean, line_of, line_of_words}
use Rattle.wire_text.proofs.Separators.{in_line, past_line, upto_line, last_line, free_append}
use Rattle.wire_text.proofs.WordLists.{quoted_says}
use Rattle.grammar_laws.specs.ScriptText.{quoted, command_line, is_word, is_line}
use Rattle.grammar_laws.proofs.Bytes.{free_of, decimal_free, decimal_short, path_free, path_short}
use Rattle.std.proofs.lemmas.Bool.{not-true, and_parts}

-- ---- paths and lengths

length_read : {E : Type 0} (none long : E) (word : List ℕ) (n : ℕ) → is_digits word ≡ true → number_of word ≡ n → nat_le n 8388608 ≡ true
    → (if is_digits word then (if nat_le (number_of word) 8388608 then Ok (number_of word) else Err long) else Err none) ≡ Ok n
length_read none long word n digits number short =
    ap (λ (b : Bool). if b then (if nat_le (number_of word) 8388608 then Ok (number_of word) else Err long) else Err none) digits
    ∙ (ap (λ (m : ℕ). if nat_le m 8388608 then Ok m else Err long) number
    ∙ ap (λ (b : Bool). if b then Ok n else Err long) short)

pub length_printed : (n : ℕ) → nat_le n 8388608 ≡ true → length_of (decimal n) ≡ Ok n
length_printed n short =
    let le : n ≤ 8388608 = grind (arith, nat_tests) in
    let small : n < 2 ^ 64 = omega (arith, le) in
    let w = written n small in
    length_read _ _ (decimal n) n (both _ _ w.some w.digits) (number_decimal n small) short

pub path_printed : (client path : List ℕ) → is_path path ≡ true → is_within client path ≡ true → path_in client (printed path) ≡ Some path
path_printed client path is within =
    ap (path_within client) (prints_path path is) ∙ ap (λ (b : Bool). if b then Some path else None) within

-- ---- lines of blocks and paths

module _ (client path : List ℕ) (waits : Bool) (is : is_path path ≡ true) (within : is_within client path ≡ true) where
  pub file_is : (n : ℕ) → nat_le n 8388608 ≡ true → kind_of client waits ((codes "file " ++ printed path ++ codes " ") ++ decimal n) ≡ block_kind (Some path) (Ok n)
  file_is n short =
      ap (file_kind client) (ap (last_cut 0x20) (append_assoc (printed path) (0x20 ∷ []) (decimal n)) ∙ last_line 0x20 (printed path) (decimal n) (decimal_free 0x20 n refl))
      ∙ (ap (λ (p : Option (List ℕ)). block_kind p (length_of (decimal n))) (path_printed client path is within)
      ∙ ap (block_kind (Some path)) (length_printed n short))

  pub clear_is : kind_of client waits (codes "clear " ++ printed path) ≡ clear_kind (Some path)
  clear_is = ap clear_kind (path_printed client path is within)

pub input_is : (client : List ℕ) (n : ℕ) → nat_le n 8388608 ≡ true → kind_of client false (codes "input " ++ decimal n) ≡ input_kind false (Ok n)
input_is client n short = ap (input_kind false) (length_printed n short)

module _ (path : List ℕ) (is : is_path path ≡ true) where
  pub file_free : (n : ℕ) → IsFree 0x0A ((codes "file " ++ printed path ++ codes " ") ++ decimal n)
  file_free n = (refl, (refl, (refl, (refl, (refl, free_append 0x0A (printed path ++ codes " ") (decimal n) (free_append 0x0A (printed path) (codes " ") (path_free path is) (refl, tt)) (decimal_free 0x0A n refl))))))

  pub file_short : (n : ℕ) → length ((codes "file " ++ printed path ++ codes " ") ++ decimal n) ≤ 8192
  file_short n =
      omega (arith, path_short path is, decimal_short n, length-append (printed path ++ codes " ") (decimal n), length-append (printed path) (codes " "))

  pub clear_free : IsFree 0x0A (codes "clear " ++ printed path)
  clear_free = (refl, (refl, (refl, (refl, (refl, (refl, path_free path is))))))

  pub clear_short : length (codes "clear " ++ printed path) ≤ 8192
  clear_short = omega (arith, path_short path is)

pub input_free : (n : ℕ) → IsFree 0x0A (codes "input " ++ decimal n)
input_free n = (refl, (refl, (refl, (refl, (refl, (refl, decimal_free 0x0A n refl))))))

pub input_short : (n : ℕ) → length (codes "input " ++ decimal n) ≤ 8192
input_short n = omega (arith, decimal_short n)

-- ---- lines of words

pub command_is : (client : List ℕ) (waits : Bool) (line : Line) → kind_of client waits (command_line line) ≡ kind_by_word client waits [] []
command_is client waits (Words words) = refl
command_is client waits Bad = refl

word_free : (word : List ℕ) → is_word word ≡ true → IsFree 0x22 word
word_free word is = free_of (λ x. x == 0x22) 0x22 refl word (not-true _ (and_parts _ _ is).1)

word_plain : (word : List ℕ) → is_word word ≡ true → list_any is_control word ≡ false
word_plain word is = not-true _ (and_parts _ _ (and_parts _ _ is).0).1

word_utf8 : (word : List ℕ) → is_word word ≡ true → is_utf8 word ≡ true
word_utf8 word is = (and_parts _ _ (and_parts _ _ is).0).0

first_quoted : (word more : List ℕ) → IsFree 0x22 word → quoted_word (word ++ 0x22 ∷ 0x20 ∷ more) ≡ Some word
first_quoted word more free =
    ap (λ (b : Bool). if b && is_apart (past 0x22 (word ++ 0x22 ∷ 0x20 ∷ more)) then Some (upto 0x22 (word ++ 0x22 ∷ 0x20 ∷ more)) else None) (in_line 0x22 word (0x20 ∷ more) free)
    ∙ (ap (λ (t : List ℕ). if is_apart t then Some (upto 0x22 (word ++ 0x22 ∷ 0x20 ∷ more)) else None) (past_line 0x22 word (0x20 ∷ more) free)
    ∙ ap Some (upto_line 0x22 word (0x20 ∷ more) free))

no_space : (b : ℕ) → b ≡ 0x22 → b ≡ 0x20 → ⊥
no_space b e f = omega (arith, e, f)

one_quoted : (word more : List ℕ) → IsFree 0x22 word → words_from 0 (0x22 ∷ (word ++ 0x22 ∷ 0x20 ∷ more)) ≡ with_word (Some word) (words_from 0 (0x20 ∷ more))
one_quoted word more free =
    quoted_says 0x22 (0x22 ∷ (word ++ 0x22 ∷ 0x20 ∷ more)) (word ++ 0x22 ∷ 0x20 ∷ more) refl word (0x20 ∷ more) (no_space 0x22 refl) refl (first_quoted word more free)
    (sym (past_line 0x22 word (0x20 ∷ more) free))

behind_it : (word : List ℕ) (words : List (List ℕ)) (text : List ℕ) → words_from 0 text ≡ Some words → with_word (Some word) (words_from 0 (0x20 ∷ text)) ≡ Some (word ∷ words)
behind_it word words text e = ap (with_word (Some word)) e

pub words_quoted : (words : List (List ℕ)) → list_all is_word words ≡ true → words_from 0 (quoted words) ≡ Some words
words_quoted [] all = refl
words_quoted (word ∷ words) all =
    one_quoted word (quoted words) (word_free word (and_parts _ _ all).0) ∙ behind_it word words (quoted words) (words_quoted words (and_parts _ _ all).1)

any_both : (a b : List ℕ) → list_any is_control a ≡ false → list_any is_control b ≡ false → list_any is_control (a ++ b) ≡ false
any_both a b e f = list_any-append is_control a b ∙ (λ i. e i || f i)

quoted_plain : (words : List (List ℕ)) → list_all is_word words ≡ true → list_any is_control (quoted words) ≡ false
quoted_plain [] all = refl
quoted_plain (word ∷ words) all = any_both word (0x22 ∷ 0x20 ∷ quoted words) (word_plain word (and_parts _ _ all).0) (quoted_plain words (and_parts _ _ all).1)

quoted_utf8 : (words : List (List ℕ)) → list_all is_word words ≡ true → is_utf8 (quoted words) ≡ true
quoted_utf8 [] all = refl
quoted_utf8 (word ∷ words) all =
    ascii-cons 0x22 (word ++ 0x22 ∷ 0x20 ∷ quoted words) (omega arith)
    ∙ utf8_both word (0x22 ∷ 0x20 ∷ quoted words) (word_utf8 word (and_parts _ _ all).0)
    (ascii-cons 0x22 (0x20 ∷ quoted words) (omega arith) ∙ (ascii-cons 0x20 (quoted words) (omega arith) ∙ quoted_utf8 words (and_parts _ _ all).1))

clean_line : (words : List (List ℕ)) → list_all is_word words ≡ true → is_clean (0x20 ∷ quoted words) ≡ true
clean_line words all = both _ _ (ascii-cons 0x20 (quoted words) (omega arith) ∙ quoted_utf8 words all) (ap not (quoted_plain words all))

pub line_reads : (line : Line) → is_line line ≡ true → line_of (command_line line) ≡ line
line_reads (Words words) is =
    let all = (and_parts _ _ is).0 in
    ap (λ (b : Bool). if b then line_of_words (words_from 0 (quoted words)) else Bad) (clean_line words all)
    ∙ (ap line_of_words (words_quoted words all)
    ∙ ap (λ (b : Bool). if b then Words words else Bad) (and_parts _ _ is).1)
line_reads Bad is = refl

pub line_free : (line : Line) → is_line line ≡ true → IsFree 0x0A (command_line line)
line_free (Words words) is = (refl, free_of is_control 0x0A refl (quoted words) (quoted_plain words (and_parts _ _ is).0))
line_free Bad is = (refl, tt)
