-- Numbers as digits: the digits of a number are a numeral, spell the number again, hold no other byte, and may stand in a field.
use Rattle.std.proofs.Common.{◌≡◌, ◌≤◌, ◌<◌, ◌+◌, ◌*◌, ◌-◌, ◌^◌, ◌/◌, ◌%◌, ℕ, zero, suc, Bool, true, false, List, [], ◌∷◌, ◌++◌, length, fold, refl, sym, ap, ◌∙◌, arith}
use Rattle.std.specs.Prelude.{◌||◌, ◌==◌, not, decimal, nat_le, if◌then◌else◌}
use Rattle.std.specs.Fmt.{digits, digits_onto, digit_glyph}
use Rattle.std.specs.List.{list_all}
use Rattle.std.proofs.lemmas.Bool.Decides.{nat_tests}
use Rattle.std.proofs.lemmas.Fmt.{decimal_by_steps}
use Rattle.std.proofs.lemmas.Bool.{and_from, and_parts}
use Rattle.depot_rows.specs.depot_path.Bytes.{same, is_digit, is_among}
use Rattle.depot_rows.specs.depot_path.Digits.{number_of, is_digits}
use Rattle.depot_rows.specs.depot_path.Utf8.{is_utf8}
use Rattle.depot_rows.proofs.spec_form.Utf8.{ascii-cons}
use Rattle.depot_rows.specs.spec_form.Form.{is_value}
use Rattle.depot_rows.specs.spec_form.Texts.{trimmed_start, is_blank}
use Rattle.depot_rows.specs.depot_model.Numerals.{is_numeral}
use Rattle.depot_rows.proofs.Keys.{same-is, same-self, number-is}

-- ---- digits that write a number

pub record Writes (n : ℕ) (ds : List ℕ) : Type 0 where
  pub some : nat_le 1 (length ds) ≡ true
  pub digits : list_all is_digit ds ≡ true
  pub number : fold (λ n digit. n * 10 + (digit - 0x30)) 0 ds ≡ n

a_digit : (n : ℕ) → n < 10 → is_digit (48 + n) ≡ true
a_digit n h = grind (arith, nat_tests)

one : (n : ℕ) → n < 10 → Writes n ((48 + n) ∷ [])
one n h = record { some = refl; digits = and_from (is_digit (48 + n)) true (a_digit n h) refl; number = omega arith }

snoc_all : (ds : List ℕ) (x : ℕ) → list_all is_digit ds ≡ true → is_digit x ≡ true → list_all is_digit (ds ++ x ∷ []) ≡ true
snoc_all [] x e f = and_from (is_digit x) true f refl
snoc_all (d ∷ ds) x e f = and_from (is_digit d) (list_all is_digit (ds ++ x ∷ [])) (and_parts (is_digit d) (list_all is_digit ds) e).0
    (snoc_all ds x (and_parts (is_digit d) (list_all is_digit ds) e).1 f)

snoc_fold : (a : ℕ) (ds : List ℕ) (x : ℕ)
    → fold (λ n digit. n * 10 + (digit - 0x30)) a (ds ++ x ∷ []) ≡ fold (λ n digit. n * 10 + (digit - 0x30)) a ds * 10 + (x - 0x30)
snoc_fold a [] x = refl
snoc_fold a (d ∷ ds) x = snoc_fold (a * 10 + (d - 0x30)) ds x

snoc_some : (ds : List ℕ) (x : ℕ) → nat_le 1 (length (ds ++ x ∷ [])) ≡ true
snoc_some [] x = refl
snoc_some (d ∷ ds) x = grind (arith, nat_tests)

more : (n : ℕ) (ds : List ℕ) → 10 ≤ n → Writes (n / 10) ds → Writes n (ds ++ ((48 + n % 10) ∷ []))
more n ds le h = record {
  some = snoc_some ds (48 + n % 10);
  digits = snoc_all ds (48 + n % 10) h.digits (a_digit (n % 10) small);
  number = snoc_fold 0 ds (48 + n % 10) ∙ ap (λ (m : ℕ). m * 10 + ((48 + n % 10) - 0x30)) h.number ∙ whole;
}
  where
    small : n % 10 < 10
    small = omega arith

    whole : n / 10 * 10 + ((48 + n % 10) - 0x30) ≡ n
    whole = omega arith

pub written : (n : ℕ) → n < 2 ^ 64 → Writes n (decimal n)
written n small = decimal_by_steps Writes one more n small

pub numeral_decimal : (n : ℕ) → n < 2 ^ 64 → is_numeral (decimal n) ≡ true
numeral_decimal n small =
    let w = written n small in
    and_from (is_digits (decimal n)) (same (decimal (number_of (decimal n))) (decimal n)) (and_from _ _ w.some w.digits)
    (ap (λ (m : ℕ). same (decimal m) (decimal n)) w.number ∙ same-self (decimal n))

pub number_decimal : (n : ℕ) → n < 2 ^ 64 → number_of (decimal n) ≡ n
number_decimal n small = (written n small).number

-- ---- all of them are digits, whatever the number

glyph_is : (r : ℕ) → r < 10 → is_digit (digit_glyph false r) ≡ true
glyph_is r h = grind (arith, nat_tests)

onto_digits : (k n : ℕ) (acc : List ℕ) → list_all is_digit acc ≡ true → list_all is_digit (digits_onto k 10 false n acc) ≡ true
onto_digits zero n acc e = e
onto_digits (suc k) n acc e = go (n / 10 == 0) (onto_digits k (n / 10) (digit_glyph false (n % 10) ∷ acc) here)
  where
    here : list_all is_digit (digit_glyph false (n % 10) ∷ acc) ≡ true
    here = and_from (is_digit (digit_glyph false (n % 10))) (list_all is_digit acc) (glyph_is (n % 10) (omega arith)) e

    go : (b : Bool) → list_all is_digit (digits_onto k 10 false (n / 10) (digit_glyph false (n % 10) ∷ acc)) ≡ true
        → list_all is_digit (if b then digit_glyph false (n % 10) ∷ acc else digits_onto k 10 false (n / 10) (digit_glyph false (n % 10) ∷ acc)) ≡ true
    go true rest = here
    go false rest = rest

pub decimal_digits : (n : ℕ) → list_all is_digit (decimal n) ≡ true
unfolding digits
decimal_digits n = onto_digits 64 n [] refl

-- ---- what digits aren't

pub digits_utf8 : (ds : List ℕ) → list_all is_digit ds ≡ true → is_utf8 ds ≡ true
digits_utf8 [] e = refl
digits_utf8 (d ∷ ds) e = ascii-cons d ds (small d (and_parts (is_digit d) (list_all is_digit ds) e).0) ∙ digits_utf8 ds (and_parts (is_digit d) (list_all is_digit ds) e).1
  where
    small : (x : ℕ) → is_digit x ≡ true → x < 0x80
    small x h = grind (arith, nat_tests)

pub digits_without : (c : ℕ) → is_digit c ≡ false → (ds : List ℕ) → list_all is_digit ds ≡ true → is_among ds c ≡ false
digits_without c other [] e = refl
digits_without c other (d ∷ ds) e = go (d == c) refl (and_parts (is_digit d) (list_all is_digit ds) e).0 (digits_without c other ds (and_parts (is_digit d) (list_all is_digit ds) e).1)
  where
    go : (b : Bool) → (d == c) ≡ b → is_digit d ≡ true → is_among ds c ≡ false → (b || is_among ds c) ≡ false
    go true h k later = absurd (let f : is_digit d ≡ false = ap is_digit (number-is d c h) ∙ other in cc)
    go false h k later = later

-- they begin with no blank
pub digits_trimmed : (ds : List ℕ) → list_all is_digit ds ≡ true → trimmed_start ds ≡ ds
digits_trimmed [] all = refl
digits_trimmed (d ∷ ds) all = go (is_blank d) (no_blank d (and_parts (is_digit d) (list_all is_digit ds) all).0)
  where
    no_blank : (x : ℕ) → is_digit x ≡ true → is_blank x ≡ false
    no_blank x h = grind (arith, nat_tests)

    go : (b : Bool) → b ≡ false → (if b then trimmed_start ds else d ∷ ds) ≡ d ∷ ds
    go true e = absurd cc
    go false e = refl

pub value_digits : (ds : List ℕ) → list_all is_digit ds ≡ true → is_value ds ≡ true
value_digits ds all =
    let three : same (trimmed_start ds) ds ≡ true = ap (λ (t : List ℕ). same t ds) (digits_trimmed ds all) ∙ same-self ds in
    and_from _ _ (and_from (is_utf8 ds) _ (digits_utf8 ds all) (ap not (digits_without 0x0A refl ds all))) three

-- ---- names that end with a blank and digits

no_blank_in : (xs es : List ℕ) → list_all is_digit (xs ++ 0x20 ∷ es) ≡ true → ⊥
no_blank_in [] es e = absurd cc
no_blank_in (x ∷ xs) es e = no_blank_in xs es (and_parts (is_digit x) (list_all is_digit (xs ++ 0x20 ∷ es)) e).1

pub parts_is : (xs ys ds es : List ℕ) → list_all is_digit ds ≡ true → list_all is_digit es ≡ true → xs ++ 0x20 ∷ ds ≡ ys ++ 0x20 ∷ es → (xs ≡ ys) × (ds ≡ es)
parts_is [] [] ds es p q e = (refl, cc)
parts_is [] (y ∷ ys) ds es p q e =
    absurd (let tail : ds ≡ ys ++ 0x20 ∷ es = cc in no_blank_in ys es (ap (list_all is_digit) (sym tail) ∙ p))
parts_is (x ∷ xs) [] ds es p q e =
    absurd (let tail : xs ++ 0x20 ∷ ds ≡ es = cc in no_blank_in xs ds (ap (list_all is_digit) tail ∙ q))
parts_is (x ∷ xs) (y ∷ ys) ds es p q e =
    let head_is : x ≡ y = cc in
    let tail : xs ++ 0x20 ∷ ds ≡ ys ++ 0x20 ∷ es = cc in
    let rest = parts_is xs ys ds es p q tail in
    ((λ i. head_is i ∷ rest.0 i), rest.1)

-- digits before a space part a text one way
pub parts_are : (xs ys a b : List ℕ) → list_all is_digit xs ≡ true → list_all is_digit ys ≡ true → xs ++ 0x20 ∷ a ≡ ys ++ 0x20 ∷ b → (xs ≡ ys) × (a ≡ b)
parts_are [] [] a b p q e = (refl, cc)
parts_are [] (y ∷ ys) a b p q e =
    let one : 0x20 ≡ y = cc in
    absurd (let no : true ≡ false = sym (and_parts (is_digit y) (list_all is_digit ys) q).0 ∙ ap is_digit (sym one) in cc)
parts_are (x ∷ xs) [] a b p q e =
    let one : x ≡ 0x20 = cc in
    absurd (let no : true ≡ false = sym (and_parts (is_digit x) (list_all is_digit xs) p).0 ∙ ap is_digit one in cc)
parts_are (x ∷ xs) (y ∷ ys) a b p q e =
    let one : x ≡ y = cc in
    let more : xs ++ 0x20 ∷ a ≡ ys ++ 0x20 ∷ b = cc in
    let rest = parts_are xs ys a b (and_parts (is_digit x) (list_all is_digit xs) p).1 (and_parts (is_digit y) (list_all is_digit ys) q).1 more in
    ((λ i. one i ∷ rest.0 i), rest.1)

-- ---- numerals

pub numeral_is : (text : List ℕ) → is_numeral text ≡ true → text ≡ decimal (number_of text)
numeral_is text e = sym (same-is (decimal (number_of text)) text (and_parts (is_digits text) _ e).1)

pub numeral_digits : (text : List ℕ) → is_numeral text ≡ true → list_all is_digit text ≡ true
numeral_digits text e = (and_parts (nat_le 1 (length text)) (list_all is_digit text) (and_parts (is_digits text) _ e).0).1
