-- The texts of the forms of shelved files, whose fields are single ones (Command-Line Reference, on specs and their forms).
use Rattle.std.specs.Prelude.{ℕ, List, [], ◌∷◌, codes, decimal, Some}
use Rattle.std.specs.List.{flat_map}
use Rattle.depot_rows.specs.spec_form.declared.form.Field.{Field}
use Rattle.depot_rows.specs.spec_form.declared.shape.FieldKind.TheVariants.{Single}
use Rattle.depot_rows.specs.spec_form.Printing.{printed_as}
use Rattle.depot_rows.specs.depot_model.declared.request.Caller.{Caller}
use Rattle.depot_rows.specs.depot_model.Deeds.{Opening}
use Rattle.depot_rows.specs.depot_model.Rows.{action_word}
use Rattle.depot_rows.specs.depot_model.Values.{valued}

-- single fields one after another
abbrev pub fields_text : List Field → List ℕ
fields_text fields = flat_map (printed_as (Some Single)) fields

-- who keeps a file, and that it is kept
abbrev pub owner_fields : Caller → List Field
owner_fields caller = valued (codes "Client") caller.client ∷ valued (codes "User") caller.user ∷ valued (codes "State") (codes "kept") ∷ []

-- what a file is opened for, as what, and from where
abbrev pub opened_fields : Opening → List Field
opened_fields o = valued (codes "Action") (action_word o.action) ∷ valued (codes "Type") o.file_type ∷ valued (codes "Base") (decimal o.base) ∷ []
