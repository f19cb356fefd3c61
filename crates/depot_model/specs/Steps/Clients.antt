-- `client -o`, `client -i` (Command-Line Reference, "p4 client"). The order of faults is this project's own choice, here and in the other forms.
use Rattle.std.specs.Prelude.{ℕ, List, [], ◌∷◌, codes, Option, Some, None, Ok, Err, not, nat_lt, length, ◌-◌}
use Rattle.db_records.specs.depot_path.Name.{is_name}
use Rattle.spec_form.specs.declared.shape.Shape.TheVariants.{Client}
use Rattle.spec_form.specs.Form.{FormValue, lines_of}
use Rattle.spec_form.specs.Reading.{form_of}
use Rattle.depot_model.specs.Values.{value_of}
use Rattle.view_map.specs.Reading.{view_of}
use Rattle.depot_model.specs.declared.reply.Row.{Row}
use Rattle.depot_model.specs.declared.refusal.Refusal.TheVariants.{BadForm, OverLimit}
use Rattle.depot_model.specs.declared.refusal.Limit.TheVariants.{View}
use Rattle.depot_model.specs.Deeds.{Deed, Spec, ClientForm}
use Rattle.depot_model.specs.Latest.{spec}
use Rattle.depot_model.specs.Rows.{row, text_field}
use Rattle.depot_model.specs.Step.{Step, tells, does, refuses, unless, refuse_if}
use Rattle.depot_model.specs.FormRows.{form_fields}
use Rattle.spec_form.specs.Places.{line_place}

abbrev pub client_row : List ℕ → Option FormValue → Row
client_row name None = row (text_field (codes "Client") name ∷ [])
client_row name (Some form) = row (form_fields form)

abbrev pub client_show : List Deed → List ℕ → Step
client_show d name = tells (client_row name (spec d ClientForm name) ∷ [])

-- a form with a name and a view that reads
abbrev pub saved : List ℕ → FormValue → Step
saved input form =
    let name = value_of form (codes "Client") in
    let lines = lines_of form (codes "View") in
    unless (refuse_if (not (is_name name)) (BadForm 0) ∷ refuse_if (nat_lt 200 (length lines)) (OverLimit View) ∷ [])
    (elim (view_of name lines) [
      | Err fault ↦ refuses (BadForm (line_place input (codes "View") (fault.line - 1)))
      | Ok view ↦ does (Spec ClientForm name form ∷ []) (row (text_field (codes "Client") name ∷ text_field (codes "action") (codes "saved") ∷ []))
    ])

abbrev pub client_save : List ℕ → Step
client_save input = elim (form_of Client input) [ Err fault ↦ refuses (BadForm fault.line) | Ok form ↦ saved input form ]
