-- A form as a value, and what is asked of it.
use Rattle.std.specs.Prelude.{ℕ, Bool, true, false, ◌&&◌, not, List, [], ◌∷◌, map, if◌then◌else◌, Option, Some, Result, Ok, Err}
use Rattle.std.specs.List.{list_any}
use Rattle.std.specs.Str.{bytes_eq}
use Rattle.depot_path.specs.Bytes.{is_among}
use Rattle.depot_path.specs.Utf8.{is_utf8}
use Rattle.spec_form.specs.Texts.{trimmed_start}
use Rattle.spec_form.specs.declared.shape.Shape.{Shape}
use Rattle.spec_form.specs.declared.shape.FieldKind.{FieldKind}
use Rattle.spec_form.specs.declared.shape.FieldKind.TheVariants.{Single}
use Rattle.spec_form.specs.declared.form.Field.{Field}
use Rattle.spec_form.specs.declared.fault.ValueFault.{ValueFault}
use Rattle.spec_form.specs.declared.fault.ValueFault.TheVariants.{NoSingleField, NotAValue}
use Rattle.spec_form.specs.Shapes.{kind_of}

-- a form: its shape, and its fields in the order in which they were first seen
pub record FormValue : Type 0 where
  pub shape : Shape
  pub fields : List Field

abbrev pub has_field : List ℕ → List Field → Bool
has_field name fields = list_any (λ (f : Field). bytes_eq f.name name) fields

-- the lines of a field, none where it is absent
abbrev pub lines_in : List Field → List ℕ → List (List ℕ)
lines_in [] name = []
lines_in (f ∷ fields) name = if bytes_eq f.name name then f.lines else lines_in fields name

abbrev pub lines_of : FormValue → List ℕ → List (List ℕ)
lines_of form name = lines_in form.fields name

-- the lines of a single field with this value: one, or none where the value is empty
abbrev pub value_lines : List ℕ → List (List ℕ)
value_lines [] = []
value_lines (b ∷ value) = (b ∷ value) ∷ []

-- a value that a single field may have: one line of UTF-8 that begins with no blank
abbrev pub is_value : List ℕ → Bool
is_value value = is_utf8 value && not (is_among value 0x0A) && bytes_eq (trimmed_start value) value

-- a field with this value in place of its own, if it has the name
abbrev pub with_value : List ℕ → List ℕ → Field → Field
with_value name value f = if bytes_eq f.name name then record f { lines = value_lines value } else f

-- the form with this value in a field, and all else as it was
abbrev pub with_field : List ℕ → List ℕ → FormValue → FormValue
with_field name value form = record form { fields = map (with_value name value) form.fields }

-- a form has a single field of this name
abbrev pub is_single : Option FieldKind → Bool
is_single (Some Single) = true
is_single _ = false

abbrev pub has_single : List ℕ → FormValue → Bool
has_single name form = is_single (kind_of form.shape name) && has_field name form.fields

abbrev pub changed_if : Bool → Bool → FormValue → Result FormValue ValueFault
changed_if false fits form = Err NoSingleField
changed_if true false form = Err NotAValue
changed_if true true form = Ok form

-- the form with this value in a single field that it has; first it is told that it has no such field, then that no single field may have
-- the value
abbrev pub with_line : List ℕ → List ℕ → FormValue → Result FormValue ValueFault
with_line name value form = changed_if (has_single name form) (is_value value) (with_field name value form)
