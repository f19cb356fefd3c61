-- What the fields of a saved form say. This project's own choice.
use Rattle.std.specs.Prelude.{ℕ, ◌||◌, Bool, List, length, nat_lt, not}
use Rattle.depot_rows.specs.depot_path.Digits.{number_of}
use Rattle.depot_rows.specs.spec_form.Form.{FormValue, lines_of}
use Rattle.depot_rows.specs.depot_model.Numerals.{is_numeral}
use Rattle.depot_rows.specs.depot_model.Values.{value_of}

abbrev pub number_of_field : FormValue → List ℕ → ℕ
number_of_field form field = number_of (value_of form field)

abbrev pub has_value_of : FormValue → List ℕ → Bool
has_value_of form field = nat_lt 0 (length (lines_of form field))

-- a number without leading zeros, where it is there
abbrev pub is_number_of : FormValue → List ℕ → Bool
is_number_of form field = not (has_value_of form field) || is_numeral (value_of form field)
