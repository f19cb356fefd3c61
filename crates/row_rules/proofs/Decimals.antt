-- Which digits are those of a number.
use Rattle.std.proofs.Common.{◌≡◌, ◌≢◌, ◌≤◌, ◌+◌, ◌-◌, ◌*◌, ◌/◌, ◌%◌, ◌<◌, ℕ, zero, suc, Bool, true, false, cond, List, [], ◌∷◌, ◌++◌, length, fold, refl, sym, ap, ◌∙◌, arith}
use Rattle.std.specs.Prelude.{◌&&◌, ◌==◌, not, nat_le, nat_lt, decimal}
use Rattle.std.specs.Fmt.{digits, digits_onto, digit_glyph}
use Rattle.std.specs.List.{list_all}
use Rattle.std.proofs.lemmas.Bool.Decides.{nat_tests}
use Rattle.std.proofs.lemmas.List.{append-nil}
use Rattle.std.proofs.lemmas.Bool.{and_parts, and_from}
use Rattle.depot_rows.specs.depot_path.Bytes.{same, is_digit}
use Rattle.depot_rows.specs.depot_path.Digits.{number_of, is_digits}
use Rattle.depot_rows.specs.depot_model.Numerals.{is_numeral}
use Rattle.row_rules.specs.Tests.{has_leading_zero}
use Rattle.row_rules.proofs.Deciding.{same_decides, le_true}

-- the number that digits write behind those of another
abbrev after : ℕ → List ℕ → ℕ
after n ds = fold (λ n digit. n * 10 + (digit - 0x30)) n ds

pub record IsDigit (d : ℕ) : Type 0 where
  pub low : 48 ≤ d
  pub high : d ≤ 57

digit_is : (d : ℕ) → is_digit d ≡ true → IsDigit d
digit_is d e = record {
  low = le_true 48 d (and_parts (nat_le 48 d) (nat_le d 57) e).0;
  high = le_true d 57 (and_parts (nat_le 48 d) (nat_le d 57) e).1;
}

tens : (n d : ℕ) → IsDigit d → (n * 10 + (d - 48)) / 10 ≡ n
tens n d is = omega (arith, is.low, is.high)

ones : (n d : ℕ) → IsDigit d → (n * 10 + (d - 48)) % 10 ≡ d - 48
ones n d is = omega (arith, is.low, is.high)

small_lt : (m : ℕ) → m < 10 → nat_lt m 10 ≡ true
small_lt m h = grind (arith, nat_tests)

glyph : (d : ℕ) → IsDigit d → digit_glyph false (d - 48) ≡ d
glyph d is =
    let low : d - 48 < 10 = omega (arith, is.low, is.high) in
    let whole : 48 + (d - 48) ≡ d = omega (arith, is.low) in
    ap (λ b. cond b (48 + (d - 48)) (87 + (d - 48))) (small_lt (d - 48) low) ∙ whole

not_zero : (n : ℕ) → 0 < n → (n == 0) ≡ false
not_zero n h = grind (arith, nat_tests)

-- one digit more
step : (k n d : ℕ) (acc : List ℕ) → 0 < n → IsDigit d → digits_onto (suc k) 10 false (n * 10 + (d - 48)) acc ≡ digits_onto k 10 false n (d ∷ acc)
step k n d acc low is =
    let P : ℕ → ℕ → List ℕ = λ q r. cond (q == 0) (digit_glyph false r ∷ acc) (digits_onto k 10 false q (digit_glyph false r ∷ acc)) in
    ap (λ q. P q ((n * 10 + (d - 48)) % 10)) (tens n d is) ∙ ap (λ r. P n r) (ones n d is)
    ∙ ap (λ g. cond (n == 0) (g ∷ acc) (digits_onto k 10 false n (g ∷ acc))) (glyph d is)
    ∙ ap (λ b. cond b (d ∷ acc) (digits_onto k 10 false n (d ∷ acc))) (not_zero n low)

-- the digits behind a number that isn't 0
behind : (k n : ℕ) (ds acc : List ℕ) → 0 < n → list_all is_digit ds ≡ true → digits_onto (k + length ds) 10 false (after n ds) acc ≡ digits_onto k 10 false n (ds ++ acc)
behind k n [] acc low all = let same_k : k + 0 ≡ k = omega arith in ap (λ j. digits_onto j 10 false n acc) same_k
behind k n (d ∷ ds) acc low all =
    let is = digit_is d (and_parts (is_digit d) (list_all is_digit ds) all).0 in
    let next : k + suc (length ds) ≡ suc k + length ds = omega arith in
    let positive : 0 < n * 10 + (d - 48) = omega arith in
    ap (λ j. digits_onto j 10 false (after (n * 10 + (d - 48)) ds) acc) next
    ∙ behind (suc k) (n * 10 + (d - 48)) ds acc positive (and_parts (is_digit d) (list_all is_digit ds) all).1 ∙ step k n d (ds ++ acc) low is

-- the first digit
first : (k e : ℕ) (acc : List ℕ) → IsDigit e → digits_onto (suc k) 10 false (e - 48) acc ≡ e ∷ acc
first k e acc is =
    let none : (e - 48) / 10 ≡ 0 = omega (arith, is.low, is.high) in
    let whole : (e - 48) % 10 ≡ e - 48 = omega (arith, is.low, is.high) in
    let P : ℕ → ℕ → List ℕ = λ q r. cond (q == 0) (digit_glyph false r ∷ acc) (digits_onto k 10 false q (digit_glyph false r ∷ acc)) in
    ap (λ q. P q ((e - 48) % 10)) none ∙ ap (λ r. digit_glyph false r ∷ acc) whole ∙ ap (λ g. g ∷ acc) (glyph e is)

-- as many digits as there is room for
short : (k n : ℕ) (acc : List ℕ) → length (digits_onto k 10 false n acc) ≤ k + length acc
short zero n acc = omega arith
short (suc k) n acc = go (n / 10 == 0) (short k (n / 10) (digit_glyph false (n % 10) ∷ acc))
  where
    go : (b : Bool) → length (digits_onto k 10 false (n / 10) (digit_glyph false (n % 10) ∷ acc)) ≤ k + suc (length acc)
        → length (cond b (digit_glyph false (n % 10) ∷ acc) (digits_onto k 10 false (n / 10) (digit_glyph false (n % 10) ∷ acc))) ≤ suc k + length acc
    go true rest = omega arith
    go false rest = omega arith

-- a number behind digits that may begin with zeros has no more digits than these
decimal_short : (n : ℕ) → length (decimal n) ≤ 64
unfolding digits
decimal_short n = omega (arith, short 64 n [])

zero_is : decimal 0 ≡ 48 ∷ []
unfolding digits
zero_is = refl

-- digits that don't begin with a zero are those of their number
canonical : (d : ℕ) (ds : List ℕ) → IsDigit d → 0 < d - 48 → list_all is_digit ds ≡ true → length ds ≤ 63 → decimal (after 0 (d ∷ ds)) ≡ d ∷ ds
unfolding digits
canonical d ds is low all room =
    let start : 0 * 10 + (d - 48) ≡ d - 48 = omega arith in
    let fuel : 64 ≡ suc (63 - length ds) + length ds = omega arith in
    ap (λ n. digits_onto 64 10 false (after n ds) []) start ∙ ap (λ k. digits_onto k 10 false (after (d - 48) ds) []) fuel
    ∙ behind (suc (63 - length ds)) (d - 48) ds [] low all ∙ first (63 - length ds) d (ds ++ []) is ∙ ap (λ l. d ∷ l) (append-nil ds)

from_zero : (d : ℕ) (ds : List ℕ) → d ≡ 48 → after 0 (d ∷ ds) ≡ after 0 ds
from_zero d ds e = let start : 0 * 10 + (d - 48) ≡ 0 = omega arith in ap (λ n. after n ds) start

none_left : (ds : List ℕ) → length ds < 1 → ds ≡ []
none_left [] h = refl
none_left (d ∷ ds) h = absurd (omega arith)

le_false : (a b : ℕ) → nat_le a b ≡ false → b < a
le_false a b e = grind (arith, nat_tests)

is_number : (m n : ℕ) → (m == n) ≡ true → m ≡ n
is_number m n e = grind (arith, nat_tests)

other_number : (m n : ℕ) → (m == n) ≡ false → m ≢ n
other_number m n e = grind (arith, nat_tests)

no_longer : (ds : List ℕ) → 1 ≤ length ds → list_all is_digit ds ≡ true → length (decimal (after 0 ds)) ≤ length ds
no_longer [] low all = absurd (omega arith)
no_longer (d ∷ ds) low all =
    go (d == 48) refl (nat_le (length ds) 63) refl (nat_le 1 (length ds)) refl (λ more. no_longer ds more (and_parts (is_digit d) (list_all is_digit ds) all).1)
  where
    go : (z : Bool) → (d == 48) ≡ z → (s : Bool) → nat_le (length ds) 63 ≡ s → (t : Bool) → nat_le 1 (length ds) ≡ t
        → (1 ≤ length ds → length (decimal (after 0 ds)) ≤ length ds) → length (decimal (after 0 (d ∷ ds))) ≤ suc (length ds)
    go true e s f true g rest =
        let shorter = rest (le_true 1 (length ds) g) in
        omega (arith, ap (λ n. length (decimal n)) (from_zero d ds (is_number d 48 e)))
    go true e s f false g rest =
        let none = none_left ds (le_false 1 (length ds) g) in
        omega (arith, ap (λ n. length (decimal n)) (from_zero d ds (is_number d 48 e)), ap (λ l. length (decimal (after 0 l))) none, ap (λ l. length l) zero_is)
    go false e true f t g rest =
        let is = digit_is d (and_parts (is_digit d) (list_all is_digit ds) all).0 in
        let apart = other_number d 48 e in
        let low_digit : 0 < d - 48 = omega (arith, is.low, apart) in
        omega (arith, ap (λ l. length l) (canonical d ds is low_digit (and_parts (is_digit d) (list_all is_digit ds) all).1 (le_true (length ds) 63 f)))
    go false e false f t g rest = omega (arith, decimal_short (after 0 (d ∷ ds)), le_false (length ds) 63 f)

-- ---- numerals

decides_true : (b c : Bool) → (b ≡ true → c ≡ true) → (c ≡ true → b ≡ true) → b ≡ c
decides_true true true h k = refl
decides_true true false h k = sym (h refl)
decides_true false true h k = k refl
decides_true false false h k = refl

true_le : (a b : ℕ) → a ≤ b → nat_le a b ≡ true
true_le a b h = grind (arith, nat_tests)

printed_is : (text : List ℕ) → is_digits text ≡ true → (nat_le (length text) 64 && not (has_leading_zero text)) ≡ true → decimal (number_of text) ≡ text
printed_is [] e h = absurd (omega (arith, le_true 1 0 (and_parts (nat_le 1 0) true e).0))
printed_is (d ∷ []) e h =
    let is = digit_is d (and_parts (is_digit d) true (and_parts (nat_le 1 1) (is_digit d && true) e).1).0 in
    go (d == 48) refl is
  where
    go : (z : Bool) → (d == 48) ≡ z → IsDigit d → decimal (after 0 (d ∷ [])) ≡ d ∷ []
    go true f is = ap decimal (from_zero d [] (is_number d 48 f)) ∙ zero_is ∙ ap (λ b. b ∷ []) (sym (is_number d 48 f))
    go false f is =
        let apart = other_number d 48 f in
        let low_digit : 0 < d - 48 = omega (arith, is.low, apart) in
        canonical d [] is low_digit refl (omega arith)
printed_is (d ∷ b ∷ ds) e h =
    let digits_are = (and_parts (nat_le 1 (length (d ∷ b ∷ ds))) (list_all is_digit (d ∷ b ∷ ds)) e).1 in
    let is = digit_is d (and_parts (is_digit d) (list_all is_digit (b ∷ ds)) digits_are).0 in
    let apart = other_number d 48 (no_zero (d == 48) (and_parts (nat_le (length (d ∷ b ∷ ds)) 64) (not (d == 48)) h).1) in
    let low_digit : 0 < d - 48 = omega (arith, is.low, apart) in
    let room = le_true (length (d ∷ b ∷ ds)) 64 (and_parts (nat_le (length (d ∷ b ∷ ds)) 64) (not (d == 48)) h).0 in
    canonical d (b ∷ ds) is low_digit (and_parts (is_digit d) (list_all is_digit (b ∷ ds)) digits_are).1 (omega arith)
  where
    no_zero : (z : Bool) → not z ≡ true → z ≡ false
    no_zero true f = absurd cc
    no_zero false f = refl

is_printed : (text : List ℕ) → is_digits text ≡ true → decimal (number_of text) ≡ text → (nat_le (length text) 64 && not (has_leading_zero text)) ≡ true
is_printed [] e h = absurd (omega (arith, le_true 1 0 (and_parts (nat_le 1 0) true e).0))
is_printed (d ∷ []) e h = and_from (nat_le 1 64) true (true_le 1 64 (omega arith)) refl
is_printed (d ∷ b ∷ ds) e h =
    and_from (nat_le (length (d ∷ b ∷ ds)) 64) (not (d == 48))
    (true_le (length (d ∷ b ∷ ds)) 64 (omega (arith, decimal_short (number_of (d ∷ b ∷ ds)), ap (λ l. length l) h)))
    (go (d == 48) refl)
  where
    go : (z : Bool) → (d == 48) ≡ z → not z ≡ true
    go false f = refl
    go true f =
        let digits_are = (and_parts (nat_le 1 (length (d ∷ b ∷ ds))) (list_all is_digit (d ∷ b ∷ ds)) e).1 in
        let shorter = no_longer (b ∷ ds) (omega arith) (and_parts (is_digit d) (list_all is_digit (b ∷ ds)) digits_are).1 in
        absurd (omega (arith, shorter, ap (λ n. length (decimal n)) (from_zero d (b ∷ ds) (is_number d 48 f)), ap (λ l. length l) h))

pub numerals : (text : List ℕ) → is_numeral text ≡ (is_digits text && (nat_le (length text) 64 && not (has_leading_zero text)))
numerals text = go (is_digits text) refl
  where
    go : (b : Bool) → is_digits text ≡ b → (b && same (decimal (number_of text)) text) ≡ (b && (nat_le (length text) 64 && not (has_leading_zero text)))
    go false e = refl
    go true e =
        decides_true (same (decimal (number_of text)) text) (nat_le (length text) 64 && not (has_leading_zero text))
        (λ f. is_printed text e ((same_decides (decimal (number_of text)) text).0 f))
        (λ f. (same_decides (decimal (number_of text)) text).1 (printed_is text e f))
