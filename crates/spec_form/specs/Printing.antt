-- The text of a form: a single field on one line, a field of many lines with each of them behind a tab, and an empty line
-- behind each field.
use Rattle.std.specs.Prelude.{ℕ, ◌≡◌, List, [], ◌∷◌, ◌++◌, codes, Option, Some, None, Ok}
use Rattle.std.specs.List.{flat_map}
use Rattle.spec_form.specs.Shapes.{kind_of}
use Rattle.spec_form.specs.Form.{FormValue}
use Rattle.spec_form.specs.Reading.{form_of}
use Rattle.spec_form.specs.declared.shape.Shape.{Shape}
use Rattle.spec_form.specs.declared.shape.FieldKind.{FieldKind}
use Rattle.spec_form.specs.declared.shape.FieldKind.TheVariants.{Single, Lines}
use Rattle.spec_form.specs.declared.form.Field.{Field}

abbrev pub tabbed : List ℕ → List ℕ
tabbed line = 0x09 ∷ line

abbrev pub tabbed_line : List ℕ → List ℕ
tabbed_line line = 0x09 ∷ line ++ codes "\n"

abbrev pub printed_as : Option FieldKind → Field → List ℕ
printed_as (Some Single) f = f.name ++ codes ":" ++ flat_map tabbed f.lines ++ codes "\n\n"
printed_as (Some Lines) f = f.name ++ codes ":\n" ++ flat_map tabbed_line f.lines ++ codes "\n"
printed_as None f = []

abbrev pub printed_field : Shape → Field → List ℕ
printed_field shape f = printed_as (kind_of shape f.name) f

abbrev pub printed : Shape → List Field → List ℕ
printed shape fields = flat_map (printed_field shape) fields

abbrev pub printed_form : FormValue → List ℕ
printed_form form = printed form.shape form.fields

-- what is printed of the form reads to it
abbrev pub ReadsBack : FormValue → Type 0
ReadsBack form = form_of form.shape (printed_form form) ≡ Ok form
