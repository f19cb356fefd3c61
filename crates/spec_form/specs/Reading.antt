-- The form that a text spells, line by line, and the first fault of a text that spells none. The format is that of Helix Core's
-- forms (Command-Line Reference, "Forms and the specification": comments, field names with a colon, indented lines); the faults
-- and their order are this project's own choice.
use Rattle.std.specs.Prelude.{ℕ, ◌+◌, Bool, true, false, not, ◌||◌, ◌&&◌, List, [], ◌∷◌, ◌++◌, reverse, ◌==◌, if◌then◌else◌, Option, Some, None, Result, Ok, Err}
use Rattle.depot_path.specs.Bytes.{is_among}
use Rattle.depot_path.specs.Utf8.{is_utf8}
use Rattle.spec_form.specs.Shapes.{FieldRow, fields_of, kind_of}
use Rattle.spec_form.specs.Texts.{is_blank, trimmed_start, trimmed_end, before, behind, text_lines}
use Rattle.spec_form.specs.Form.{FormValue, has_field, value_lines}
use Rattle.spec_form.specs.declared.shape.Shape.{Shape}
use Rattle.spec_form.specs.declared.shape.FieldKind.{FieldKind}
use Rattle.spec_form.specs.declared.shape.FieldKind.TheVariants.{Single, Lines}
use Rattle.spec_form.specs.declared.form.Field.{Field}
use Rattle.spec_form.specs.declared.fault.FormFault.{FormFault}
use Rattle.spec_form.specs.declared.fault.FormFaultKind.{FormFaultKind}
use Rattle.spec_form.specs.declared.fault.FormFaultKind.TheVariants.{NoField, UnknownField, Twice, Missing, NotUtf8, Memory}

-- an empty line, or a comment
abbrev pub is_skipped : List ℕ → Bool
is_skipped [] = true
is_skipped (b ∷ line) = b == 0x23

-- a further line of a field
abbrev pub is_further : List ℕ → Bool
is_further [] = false
is_further (b ∷ line) = is_blank b

-- the first lines of a field of a kind, of what follows its name
abbrev pub first_lines : FieldKind → List ℕ → List (List ℕ)
first_lines Single rest = value_lines (trimmed_start rest)
first_lines Lines rest = value_lines (trimmed_end (trimmed_start rest))

abbrev pub begun : Option FieldKind → Bool → List ℕ → List ℕ → Result Field FormFaultKind
begun None has name rest = Err UnknownField
begun (Some kind) true name rest = Err Twice
begun (Some kind) false name rest = Ok (record { name = name; lines = first_lines kind rest })

-- the field that a line begins
abbrev pub new_field : Shape → List ℕ → List Field → Result Field FormFaultKind
new_field shape line fields =
    if is_among line 0x3A
    then begun (kind_of shape (before 0x3A line)) (has_field (before 0x3A line) fields) (before 0x3A line) (behind 0x3A line)
    else Err NoField

-- a field with one more line, if it is of many lines
abbrev pub longer_if : Option FieldKind → List ℕ → Field → Result Field FormFaultKind
longer_if (Some Lines) line f = Ok (record f { lines = f.lines ++ line ∷ [] })
longer_if (Some Single) line f = Err NoField
longer_if None line f = Err NoField

abbrev pub longer : Shape → List ℕ → Field → Result Field FormFaultKind
longer shape line f = longer_if (kind_of shape f.name) (trimmed_end (trimmed_start line)) f

abbrev pub in_front : List Field → Result Field FormFaultKind → Result (List Field) FormFaultKind
in_front fields (Ok f) = Ok (f ∷ fields)
in_front fields (Err fault) = Err fault

-- the fields after a further line; the last one stands first
abbrev pub continued : Shape → List ℕ → List Field → Result (List Field) FormFaultKind
continued shape line [] = Err NoField
continued shape line (f ∷ fields) = in_front fields (longer shape line f)

-- the fields after a line; the last one stands first
abbrev pub line_read : Shape → List ℕ → List Field → Result (List Field) FormFaultKind
line_read shape line fields =
    if is_skipped line then Ok fields else
    (if is_further line then continued shape line fields else in_front fields (new_field shape line fields))

-- the fields after the n-th line, and after those behind it, or the first fault
abbrev pub after_line : ℕ → (List Field → Result (List Field) FormFault) → Result (List Field) FormFaultKind → Result (List Field) FormFault
after_line n behind (Err kind) = Err (record { what = kind; line = n })
after_line n behind (Ok fields) = behind fields

-- the fields after some lines, of which the first is the n-th, or the first fault
abbrev pub lines_read : Shape → ℕ → List (List ℕ) → List Field → Result (List Field) FormFault
lines_read shape n [] fields = Ok fields
lines_read shape n (line ∷ lines) fields = after_line n (λ more. lines_read shape (n + 1) lines more) (line_read shape line fields)

-- a required field is absent
abbrev pub lacks : List FieldRow → List Field → Bool
lacks [] fields = false
lacks (row ∷ rows) fields = (row.required && not (has_field row.name fields)) || lacks rows fields

-- a fault of no line
abbrev pub whole_fault : FormFaultKind → FormFault
whole_fault kind = record { what = kind; line = 0 }

abbrev pub no_memory : FormFault
no_memory = whole_fault Memory

abbrev pub complete_if : Bool → Shape → List Field → Result FormValue FormFault
complete_if true shape fields = Err (whole_fault Missing)
complete_if false shape fields = Ok (record { shape = shape; fields = fields })

abbrev pub complete : Shape → Result (List Field) FormFault → Result FormValue FormFault
complete shape (Err fault) = Err fault
complete shape (Ok fields) = complete_if (lacks (fields_of shape) (reverse fields)) shape (reverse fields)

-- the form of a shape that a text spells, or the first fault
abbrev pub form_of : Shape → List ℕ → Result FormValue FormFault
form_of shape text =
    if is_utf8 text then complete shape (lines_read shape 1 (text_lines text) []) else Err (whole_fault NotUtf8)
