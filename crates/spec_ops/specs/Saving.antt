-- How a form is shown, and the row that tells that it is saved (Command-Line Reference, "p4 client", "p4 label", "p4 group"). That the row of a form that
-- isn't saved has its name alone is this project's own choice.
use Rattle.std.specs.Prelude.{ℕ, List, [], ◌∷◌, codes, Option, Some, None}
use Rattle.depot_rows.specs.spec_form.Form.{FormValue}
use Rattle.depot_rows.specs.depot_model.declared.reply.Row.{Row}
use Rattle.depot_rows.specs.depot_model.FormRows.{form_fields}
use Rattle.depot_rows.specs.depot_model.Rows.{row, text_field}

-- the row of a form, or of a name under which none is saved
abbrev pub shown : List ℕ → List ℕ → Option FormValue → Row
shown field name None = row (text_field field name ∷ [])
shown field name (Some form) = row (form_fields form)

-- the row that tells that something is saved
abbrev pub saved_row : List ℕ → List ℕ → Row
saved_row field name = row (text_field field name ∷ text_field (codes "action") (codes "saved") ∷ [])
