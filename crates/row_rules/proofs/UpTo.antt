-- Numerals up to a number.
use Rattle.std.proofs.Common.{◌≡◌, ℕ, Bool, true, false, List, Option, Some, None, refl, sym, ◌∙◌}
use Rattle.std.specs.Prelude.{◌&&◌, ◌||◌, not, codes, if◌then◌else◌}
use Rattle.depot_rows.specs.depot_path.Digits.{number_of}
use Rattle.depot_rows.specs.depot_path.Bytes.{same}
use Rattle.depot_rows.specs.spec_form.Form.{FormValue}
use Rattle.depot_rows.specs.depot_model.Values.{value_of as form_value}
use Rattle.depot_rows.specs.depot_model.Rules.{Rows, is_printed_path, is_one_of, top_in}
use Rattle.row_rules.specs.Tests.{is_numeral_up_to, numeral_up_to, is_shelf_form, is_kept_form, has_its_numbers, spaced, shelf_words}

some_by : (b : Bool) (m n : ℕ) → (if b then Some m else None) ≡ Some n → (b ≡ true) × (m ≡ n)
some_by true m n e = (refl, cc)
some_by false m n e = absurd cc

pub some_is : (most n : ℕ) (text : List ℕ) → numeral_up_to most text ≡ Some n → (is_numeral_up_to most text ≡ true) × (number_of text ≡ n)
some_is most n text e = some_by (is_numeral_up_to most text) (number_of text) n e

none_by : (b : Bool) (m : ℕ) → None ≡ (if b then Some m else None) → b ≡ false
none_by true m e = absurd cc
none_by false m e = refl

pub none_eq : (most : ℕ) (text : List ℕ) (o : Option ℕ) → o ≡ numeral_up_to most text → o ≡ None → is_numeral_up_to most text ≡ false
none_eq most text o e f = none_by (is_numeral_up_to most text) (number_of text) (sym f ∙ e)

fourth : (a b c d e f : Bool) → d ≡ false → false ≡ (a && b && c && d && e && f)
fourth false b c d e f h = refl
fourth true false c d e f h = refl
fourth true true false d e f h = refl
fourth true true true true e f h = absurd cc
fourth true true true false e f h = refl

pub shelf_refused : (rows : Rows) (name : List ℕ) (form : FormValue) → is_numeral_up_to (top_in rows) (form_value form (codes "Change")) ≡ false → false ≡ is_shelf_form rows name form
shelf_refused rows name form h =
    fourth (same name (spaced (form_value form (codes "Change")) (form_value form (codes "Path")))) (is_printed_path (form_value form (codes "Path")))
    (has_its_numbers form) (is_numeral_up_to (top_in rows) (form_value form (codes "Change"))) (is_one_of shelf_words (form_value form (codes "State")))
    (not (same (form_value form (codes "State")) (codes "kept")) || is_kept_form rows form) h
