-- The fields of a form as a map keeps them: the lines of each by its name, in the order in which they were first seen.
use Rattle.std.specs.Prelude.{ℕ, Bool, true, false, List, [], ◌∷◌, ◌++◌, map, Option, None, Result, Ok, Err, Vec}
use Rattle.std.specs.declared.alloc.Global.{Global}
use Rattle.spec_form.specs.declared.shape.Shape.{Shape}
use Rattle.spec_form.specs.declared.shape.FieldKind.{FieldKind}
use Rattle.spec_form.specs.declared.form.Field.{Field}
use Rattle.spec_form.specs.declared.fault.FormFaultKind.{FormFaultKind}
use Rattle.spec_form.specs.declared.fault.FormFaultKind.TheVariants.{Twice}
use Rattle.spec_form.specs.Shapes.{kind_of}
use Rattle.spec_form.specs.Form.{has_field}

-- a name, and its lines
abbrev pub Entry : Type 0
Entry = Vec ℕ Global × List (List ℕ)

abbrev pub seen_field : Entry → Field
seen_field entry = record { name = entry.0.items; lines = entry.1 }

abbrev pub seen_fields : List Entry → List Field
seen_fields entries = map seen_field entries

-- the fields with one more behind them, if none has its name
abbrev pub added_if : Bool → List Field → Field → Result (List Field) FormFaultKind
added_if true fields f = Err Twice
added_if false fields f = Ok (fields ++ f ∷ [])

abbrev pub added : List Field → Field → Result (List Field) FormFaultKind
added fields f = added_if (has_field f.name fields) fields f

-- the kind of the first of some fields, and these fields with one more line in the first; a form that is read has its last field first
abbrev pub first_kind : Shape → List Field → Option FieldKind
first_kind shape [] = None
first_kind shape (f ∷ fields) = kind_of shape f.name

abbrev pub lengthened : List ℕ → List Field → List Field
lengthened line [] = []
lengthened line (f ∷ fields) = record f { lines = f.lines ++ line ∷ [] } ∷ fields
