-- The fields of each shape of form. Those of clients, labels, groups, protections, changes and jobs are fields of Helix Core's
-- forms (Command-Line Reference, "p4 client", "p4 label", "p4 group", "p4 protect", "p4 change", "p4 job"); the forms of
-- shelved files and fixes, and which fields must be there, are this project's own choice.
use Rattle.std.specs.Prelude.{ℕ, Bool, true, false, List, [], ◌∷◌, map, codes, if◌then◌else◌, Option, Some, None}
use Rattle.std.specs.Borrow.{Bor}
use Rattle.std.specs.Str.{bytes_eq}
use Rattle.spec_form.specs.declared.shape.Shape.{Shape}
use Rattle.spec_form.specs.declared.shape.Shape.TheVariants.{Client, Label, Group, Protect, Change, Shelf, Job, Fix}
use Rattle.spec_form.specs.declared.shape.FieldKind.{FieldKind}
use Rattle.spec_form.specs.declared.shape.FieldKind.TheVariants.{Single, Lines}

-- a field that a shape may have: its name, whether it has one line or many, and whether each form must have it
pub record FieldRow : Type 0 where
  pub name : List ℕ
  pub kind : FieldKind
  pub required : Bool

abbrev pub single : List ℕ → FieldRow
single name = record { name = name; kind = Single; required = false }

abbrev pub required_single : List ℕ → FieldRow
required_single name = record { name = name; kind = Single; required = true }

abbrev pub lines : List ℕ → FieldRow
lines name = record { name = name; kind = Lines; required = false }

abbrev pub required_lines : List ℕ → FieldRow
required_lines name = record { name = name; kind = Lines; required = true }

unfoldable pub fields_of : Shape → List FieldRow
fields_of Client =
    required_single (codes "Client") ∷ single (codes "Update") ∷ single (codes "Access") ∷ single (codes "Owner")
    ∷ single (codes "Host") ∷ lines (codes "Description") ∷ single (codes "Root") ∷ single (codes "Options")
    ∷ single (codes "SubmitOptions") ∷ single (codes "LineEnd") ∷ required_lines (codes "View") ∷ []
fields_of Label =
    required_single (codes "Label") ∷ single (codes "Update") ∷ single (codes "Access") ∷ single (codes "Owner")
    ∷ lines (codes "Description") ∷ single (codes "Options") ∷ single (codes "Revision") ∷ lines (codes "View") ∷ []
fields_of Group =
    required_single (codes "Group") ∷ single (codes "MaxResults") ∷ single (codes "MaxScanRows") ∷ single (codes "MaxLockTime")
    ∷ single (codes "MaxOpenFiles") ∷ single (codes "MaxMemory") ∷ single (codes "Timeout") ∷ single (codes "PasswordTimeout")
    ∷ lines (codes "Subgroups") ∷ lines (codes "Owners") ∷ lines (codes "Users") ∷ []
fields_of Protect = required_lines (codes "Protections") ∷ []
fields_of Change =
    required_single (codes "Change") ∷ single (codes "Date") ∷ single (codes "Client") ∷ single (codes "User")
    ∷ single (codes "Status") ∷ single (codes "Type") ∷ single (codes "ImportedBy") ∷ single (codes "Identity")
    ∷ required_lines (codes "Description") ∷ lines (codes "Jobs") ∷ lines (codes "Files") ∷ []
fields_of Shelf =
    required_single (codes "Path") ∷ required_single (codes "Change") ∷ single (codes "Client") ∷ single (codes "User")
    ∷ required_single (codes "State") ∷ single (codes "Action") ∷ single (codes "Type") ∷ single (codes "Base")
    ∷ single (codes "From") ∷ single (codes "FromRev") ∷ single (codes "Content") ∷ []
fields_of Job =
    required_single (codes "Job") ∷ required_single (codes "Status") ∷ required_single (codes "User") ∷ single (codes "Date")
    ∷ required_lines (codes "Description") ∷ []
fields_of Fix =
    required_single (codes "Job") ∷ required_single (codes "Change") ∷ required_single (codes "User")
    ∷ required_single (codes "State") ∷ []

-- the kind of a field, where these rows have one of the name
abbrev pub kind_in : List FieldRow → List ℕ → Option FieldKind
kind_in [] name = None
kind_in (row ∷ rows) name = if bytes_eq row.name name then Some row.kind else kind_in rows name

abbrev pub kind_of : Shape → List ℕ → Option FieldKind
kind_of shape name = kind_in (fields_of shape) name

-- a row of the code's table, whose name stands behind a reference
abbrev pub CodeRow : Type 0
CodeRow = Bor (List ℕ) × FieldKind × Bool

abbrev pub seen_row : CodeRow → FieldRow
seen_row row = record { name = row.0.now; kind = row.1; required = row.2 }

abbrev pub seen_rows : List CodeRow → List FieldRow
seen_rows rows = map seen_row rows
