-- The fields of a form as a row shows them: a single field's value where it has one, and the lines of another field numbered from 0
-- (Command-Line Reference, the tagged output of the commands that take `-o`).
use Rattle.std.specs.Prelude.{ℕ, List, [], ◌++◌, map, flat_map, Option, Some, None, decimal}
use Rattle.std.specs.List.{enumerate_from, join_with_byte}
use Rattle.spec_form.specs.declared.shape.FieldKind.{FieldKind}
use Rattle.spec_form.specs.declared.shape.FieldKind.TheVariants.{Single, Lines}
use Rattle.spec_form.specs.declared.shape.Shape.{Shape}
use Rattle.spec_form.specs.declared.form.Field.{Field}
use Rattle.spec_form.specs.Form.{FormValue, lines_of}
use Rattle.spec_form.specs.Shapes.{kind_of}
use Rattle.depot_model.specs.declared.reply.Field.{Field as RowField}
use Rattle.depot_model.specs.Rows.{text_field}

abbrev pub numbered : List ℕ → ℕ × List ℕ → RowField
numbered name line = text_field (name ++ decimal line.0) line.1

abbrev pub shown_as : Option FieldKind → Field → List RowField
shown_as (Some Single) f = map (text_field f.name) f.lines
shown_as (Some Lines) f = map (numbered f.name) (enumerate_from 0 f.lines)
shown_as None f = []

abbrev pub shown_field : Shape → Field → List RowField
shown_field shape f = shown_as (kind_of shape f.name) f

abbrev pub form_fields : FormValue → List RowField
form_fields form = flat_map (shown_field form.shape) form.fields

-- a single field's value under a name of the row, where it has one
abbrev pub value_fields : List ℕ → List ℕ → FormValue → List RowField
value_fields name field form = map (text_field name) (lines_of form field)

-- the lines of a field as one text
abbrev pub text_of : FormValue → List ℕ → List ℕ
text_of form field = join_with_byte 0x0A (lines_of form field)
