-- Which bytes printed texts don't hold, and how long they are.
use Rattle.std.proofs.Common.{◌≡◌, ℕ, zero, suc, ◌+◌, ◌/◌, ◌%◌, ◌≤◌, Bool, true, false, List, [], ◌∷◌, length, refl, ap, ◌∙◌, arith}
use Rattle.std.specs.Prelude.{◌==◌, nat_le, codes, decimal, if◌then◌else◌}
use Rattle.std.specs.Fmt.{digits, digits_onto, digit_glyph}
use Rattle.std.specs.List.{list_any}
use Rattle.std.proofs.lemmas.Bool.Decides.{nat_tests}
use Rattle.std.proofs.lemmas.Bool.{not-true, and_parts, or_parts}
use Rattle.depot_rows.specs.depot_path.Bytes.{is_control, is_digit}
use Rattle.depot_rows.specs.depot_path.Name.{is_name, is_barred}
use Rattle.depot_rows.specs.depot_path.Path.{is_path, printed, escaped}
use Rattle.depot_rows.proofs.Keys.{number-is, number-self}
use Rattle.depot_facts.proofs.Decimals.{decimal_digits, digits_without}
use Rattle.wire_text.specs.Parts.{IsFree}
use Rattle.wire_text.proofs.Separators.{free_append}

-- a byte that a test finds isn't in a text in which it finds none
pub free_of : (test : ℕ → Bool) (c : ℕ) → test c ≡ true → (text : List ℕ) → list_any test text ≡ false → IsFree c text
free_of test c is [] e = tt
free_of test c is (b ∷ text) e = (apart (b == c) refl, free_of test c is text (or_parts (test b) (list_any test text) e).1)
  where
    apart : (r : Bool) → (b == c) ≡ r → (b == c) ≡ false
    apart true same =
        absurd (let found : test b ≡ true = ap test (number-is b c same) ∙ is in
        let none : test b ≡ false = (or_parts (test b) (list_any test text) e).0 in cc)
    apart false differs = differs

-- ---- names

pub name_free : (c : ℕ) (name : List ℕ) → is_barred c ≡ true → is_name name ≡ true → IsFree c name
name_free c name barred is = free_of is_barred c barred name (not-true (list_any is_barred name) (and_parts _ _ (and_parts _ _ (and_parts _ _ is).0).0).1)

-- ---- numbers

pub decimal_free : (c n : ℕ) → is_digit c ≡ false → IsFree c (decimal n)
decimal_free c n other = free_of (λ x. x == c) c (number-self c) (decimal n) (digits_without c other (decimal n) (decimal_digits n))

onto_length : (k n : ℕ) (acc : List ℕ) → length (digits_onto k 10 false n acc) ≤ k + length acc
onto_length zero n acc = omega arith
onto_length (suc k) n acc = go (n / 10 == 0) (onto_length k (n / 10) (digit_glyph false (n % 10) ∷ acc))
  where
    go : (b : Bool) → length (digits_onto k 10 false (n / 10) (digit_glyph false (n % 10) ∷ acc)) ≤ k + length (digit_glyph false (n % 10) ∷ acc)
        → length (if b then digit_glyph false (n % 10) ∷ acc else digits_onto k 10 false (n / 10) (digit_glyph false (n % 10) ∷ acc)) ≤ suc k + length acc
    go true h = omega arith
    go false h = omega (arith, h)

pub decimal_short : (n : ℕ) → length (decimal n) ≤ 64
unfolding digits
decimal_short n = onto_length 64 n []

-- ---- paths

pub path_plain : (path : List ℕ) → is_path path ≡ true → list_any is_control path ≡ false
path_plain path is = not-true (list_any is_control path) (and_parts _ _ (and_parts _ _ (and_parts _ _ (and_parts _ _ is).0).0).1).1

pub path_short : (path : List ℕ) → is_path path ≡ true → length (printed path) ≤ 1024
path_short path is =
    let e : nat_le (length (printed path)) 1024 ≡ true = (and_parts _ _ (and_parts _ _ (and_parts _ _ (and_parts _ _ (and_parts _ _ (and_parts _ _ is).0).0).0).0).0).0 in
    grind (arith, nat_tests)

escaped_free : (b : ℕ) → (b == 0x0A) ≡ false → IsFree 0x0A (escaped b)
escaped_free b e = at (b == 0x40)
  where
    percent : (r : Bool) → IsFree 0x0A (if r then codes "%25" else b ∷ [])
    percent true = (refl, (refl, (refl, tt)))
    percent false = (e, tt)

    star : (r : Bool) → IsFree 0x0A (if r then codes "%2A" else (if b == 0x25 then codes "%25" else b ∷ []))
    star true = (refl, (refl, (refl, tt)))
    star false = percent (b == 0x25)

    hash : (r : Bool) → IsFree 0x0A (if r then codes "%23" else (if b == 0x2A then codes "%2A" else (if b == 0x25 then codes "%25" else b ∷ [])))
    hash true = (refl, (refl, (refl, tt)))
    hash false = star (b == 0x2A)

    at : (r : Bool) → IsFree 0x0A (if r then codes "%40" else (if b == 0x23 then codes "%23" else (if b == 0x2A then codes "%2A" else (if b == 0x25 then codes "%25" else b ∷ []))))
    at true = (refl, (refl, (refl, tt)))
    at false = hash (b == 0x23)

printed_free : (path : List ℕ) → IsFree 0x0A path → IsFree 0x0A (printed path)
printed_free [] free = tt
printed_free (b ∷ path) free = free_append 0x0A (escaped b) (printed path) (escaped_free b free.0) (printed_free path free.1)

pub path_free : (path : List ℕ) → is_path path ≡ true → IsFree 0x0A (printed path)
path_free path is = printed_free path (free_of is_control 0x0A refl path (path_plain path is))
