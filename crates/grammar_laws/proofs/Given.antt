-- What the words of numbers, names and types are read as.
use Rattle.std.proofs.Common.{◌≡◌, ℕ, ◌<◌, ◌≤◌, ◌^◌, Bool, true, false, List, [], ◌∷◌, Option, Some, None, Result, Ok, Err, refl, sym, ap, ◌∙◌, arith}
use Rattle.std.specs.Prelude.{◌&&◌, ◌||◌, not, nat_le, codes, decimal, option_map, if◌then◌else◌}
use Rattle.std.specs.List.{list_all}
use Rattle.std.proofs.lemmas.Bool.Decides.{nat_tests}
use Rattle.std.proofs.lemmas.Bool.{and_parts}
use Rattle.depot_rows.specs.depot_path.Answers.{◌>>=◌}
use Rattle.depot_rows.specs.depot_path.Bytes.{same, is_digit}
use Rattle.depot_rows.specs.depot_path.Digits.{number_of, is_digits, is_number as fits}
use Rattle.depot_rows.specs.depot_path.Name.{is_name}
use Rattle.depot_rows.specs.depot_model.Types.{is_type, printed_type, is_printed_type}
use Rattle.depot_rows.specs.depot_model.WellFormed.{is_type_or_none, is_free}
use Rattle.depot_rows.specs.depot_model.declared.request.WordFault.TheVariants.{BadUsage, BadNumber}
use Rattle.depot_rows.proofs.Keys.{same-is}
use Rattle.depot_facts.proofs.Decimals.{written, number_decimal, decimal_digits}
use Rattle.command_words.proofs.Giving.{both}
use Rattle.command_words.specs.Fields.{optional}
use Rattle.command_words.specs.Options.{is_option}
use Rattle.command_words.specs.Values.{most_number, most_value, number_of_word, number, value, change, is_default, name, file_type, text}
use Rattle.command_words.specs.WellFormed.{is_number, is_number_or_none, is_name_or_none}
use Rattle.command_words.specs.WordForms.{free_name}

-- the value goes into the next step
pub bound : {A B E : Type 0} (r : Result A E) (x : A) (f : A → Result B E) (y : Result B E) → r ≡ Ok x → f x ≡ y → r >>= f ≡ y
bound r x f y e g = ap (λ a. a >>= f) e ∙ g

-- ---- numbers

fits_small : (most n : ℕ) → n < 2 ^ 64 → nat_le n most ≡ true → fits most (decimal n) ≡ true
fits_small most n small le =
    let w = written n small in
    both (is_digits (decimal n)) (nat_le (number_of (decimal n)) most) (both _ _ w.some w.digits) (ap (λ (m : ℕ). nat_le m most) (number_decimal n small) ∙ le)

number_small : (most n : ℕ) (command : List ℕ) → n < 2 ^ 64 → nat_le n most ≡ true → number_of_word most command (decimal n) ≡ Ok n
number_small most n command small le =
    ap (λ (b : Bool). if b then Ok (number_of (decimal n)) else Err (BadNumber command)) (fits_small most n small le) ∙ ap Ok (number_decimal n small)

number_below : (n : ℕ) → is_number n ≡ true → n < 2 ^ 64
number_below n is =
    let le : n ≤ 2147483647 = grind (arith, nat_tests) in
    omega (arith, le)

pub number_fits : (n : ℕ) → is_number n ≡ true → fits most_number (decimal n) ≡ true
number_fits n is = fits_small most_number n (number_below n is) is

pub number_read : (command : List ℕ) (n : ℕ) → is_number n ≡ true → number command (decimal n) ≡ Ok n
number_read command n is = number_small most_number n command (number_below n is) is

pub value_read : (command : List ℕ) (n : ℕ) → n ≤ most_value → value command (decimal n) ≡ Ok n
value_read command n le = number_small most_value n command (omega (arith, le)) (grind (arith, nat_tests))

-- digits aren't the word `default`
not_default : (n : ℕ) (b : Bool) → is_default (decimal n) ≡ b → is_default (decimal n) ≡ false
not_default n true e =
    let is : decimal n ≡ codes "default" = same-is (decimal n) (codes "default") e in
    let digits : false ≡ true = sym (ap (list_all is_digit) is) ∙ decimal_digits n in
    absurd cc
not_default n false e = e

pub change_read : (command : List ℕ) (n : ℕ) → is_number n ≡ true → change command (decimal n) ≡ Ok n
change_read command n is =
    ap (λ (b : Bool). if b then Ok 0 else number command (decimal n)) (not_default n (is_default (decimal n)) refl) ∙ number_read command n is

pub change_fits : (n : ℕ) → is_number n ≡ true → (is_default (decimal n) || fits most_number (decimal n)) ≡ true
change_fits n is = either (is_default (decimal n)) (fits most_number (decimal n)) (number_fits n is)
  where
    either : (a b : Bool) → b ≡ true → (a || b) ≡ true
    either true b e = refl
    either false b e = e

-- a number begins with no dash
pub number_plain : (n : ℕ) → not (is_option (decimal n)) ≡ true
number_plain n = digits (decimal n) (decimal_digits n)
  where
    no_dash : (d : ℕ) (rest : List ℕ) (b : Bool) → is_option (d ∷ rest) ≡ b → is_digit d ≡ true → not (is_option (d ∷ rest)) ≡ true
    no_dash d rest true e digit = absurd (grind (arith, nat_tests))
    no_dash d rest false e digit = ap not e

    digits : (ds : List ℕ) → list_all is_digit ds ≡ true → not (is_option ds) ≡ true
    digits [] all = refl
    digits (d ∷ ds) all = no_dash d ds (is_option (d ∷ ds)) refl (and_parts (is_digit d) (list_all is_digit ds) all).0

-- ---- names and types

pub name_read : (command word : List ℕ) → is_name word ≡ true → name command word ≡ Ok word
name_read command word is = ap (λ (b : Bool). if b then Ok word else Err (BadUsage command)) is

pub type_fits : (type : List ℕ) → is_printed_type type ≡ true → is_type type ≡ true
type_fits type is = (and_parts (is_type type) (same (printed_type type) type) is).0

pub type_read : (command type : List ℕ) → is_printed_type type ≡ true → file_type command type ≡ Ok type
type_read command type is =
    ap (λ (b : Bool). if b then Ok (printed_type type) else Err (BadUsage command)) (type_fits type is)
    ∙ ap Ok (same-is (printed_type type) type (and_parts (is_type type) (same (printed_type type) type) is).1)

pub free_read : (command word : List ℕ) → is_free word ≡ true → is_name word ≡ true → free_name command word ≡ Ok word
free_read command word free is =
    ap (λ (b : Bool). if b then Err (BadUsage command) else name command word) (kept (same word (codes "change")) (same word (codes "journal")) free) ∙ name_read command word is
  where
    kept : (a b : Bool) → (not a && not b) ≡ true → (a || b) ≡ false
    kept true b e = absurd cc
    kept false true e = absurd cc
    kept false false e = refl

-- a name begins with no dash
pub name_plain : (name : List ℕ) → is_name name ≡ true → not (is_option name) ≡ true
name_plain [] is = refl
name_plain (b ∷ name) is = no_dash (is_option (b ∷ name)) refl
  where
    no_dash : (r : Bool) → is_option (b ∷ name) ≡ r → not (is_option (b ∷ name)) ≡ true
    no_dash true e = absurd (grind (arith, nat_tests))
    no_dash false e = ap not e

-- ---- options that are given or not

pub number_given : (command : List ℕ) (n : Option ℕ) → is_number_or_none n ≡ true → optional (number command) (option_map decimal n) ≡ Ok n
number_given command None is = refl
number_given command (Some n) is = bound (number command (decimal n)) n (λ x. Ok (Some x)) (Ok (Some n)) (number_read command n is) refl

pub change_given : (command : List ℕ) (n : Option ℕ) → is_number_or_none n ≡ true → optional (change command) (option_map decimal n) ≡ Ok n
change_given command None is = refl
change_given command (Some n) is = bound (change command (decimal n)) n (λ x. Ok (Some x)) (Ok (Some n)) (change_read command n is) refl

pub name_given : (command : List ℕ) (word : Option (List ℕ)) → is_name_or_none word ≡ true → optional (name command) word ≡ Ok word
name_given command None is = refl
name_given command (Some word) is = bound (name command word) word (λ x. Ok (Some x)) (Ok (Some word)) (name_read command word is) refl

pub type_given : (command : List ℕ) (type : Option (List ℕ)) → is_type_or_none type ≡ true → optional (file_type command) type ≡ Ok type
type_given command None is = refl
type_given command (Some type) is = bound (file_type command type) type (λ x. Ok (Some x)) (Ok (Some type)) (type_read command type is) refl

pub text_given : (command : List ℕ) (word : Option (List ℕ)) → optional (text command) word ≡ Ok word
text_given command None = refl
text_given command (Some word) = refl
