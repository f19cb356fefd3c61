-- Single fields of forms as values.
use Rattle.std.specs.Prelude.{ℕ, List, [], ◌∷◌}
use Rattle.spec_form.specs.declared.form.Field.{Field}
use Rattle.spec_form.specs.Form.{FormValue, lines_of, value_lines}

-- the value of a single field, empty where it has none
abbrev pub first_or_empty : List (List ℕ) → List ℕ
first_or_empty [] = []
first_or_empty (line ∷ lines) = line

abbrev pub value_of : FormValue → List ℕ → List ℕ
value_of form name = first_or_empty (lines_of form name)

-- a single field with a value
abbrev pub valued : List ℕ → List ℕ → Field
valued name value = record { name = name; lines = value_lines value }
