-- The row of a client's form has the client's view.
use Rattle.std.proofs.Common.{◌≡◌, ℕ, List, [], Option, Some, None, Result, Ok, Err, refl, sym, ap, ◌∙◌, subst}
use Rattle.std.specs.Prelude.{IfSome, codes, option_map, is_some, if◌then◌else◌}
use Rattle.depot_rows.specs.spec_form.Form.{FormValue, lines_of}
use Rattle.depot_rows.specs.spec_form.Printing.{printed_form}
use Rattle.depot_rows.specs.spec_form.Reading.{form_of}
use Rattle.depot_rows.specs.spec_form.declared.shape.Shape.{Shape}
use Rattle.depot_rows.specs.spec_form.declared.shape.Shape.TheVariants.{Client}
use Rattle.depot_rows.specs.view_map.Reading.{view_of}
use Rattle.depot_rows.specs.view_map.declared.fault.ViewFault.{ViewFault}
use Rattle.depot_rows.specs.view_map.declared.line.ViewLine.{ViewLine}
use Rattle.depot_rows.specs.db_records.declared.key.Key.TheVariants as keys
use Rattle.depot_rows.specs.db_records.declared.record.Record.{Record}
use Rattle.depot_rows.specs.db_records.declared.record.Record.TheVariants as records
use Rattle.depot_rows.specs.depot_model.Asking.{view, is_client}
use Rattle.depot_rows.specs.depot_model.Deeds.{Deed, ClientForm}
use Rattle.depot_rows.specs.depot_model.Latest.{spec}
use Rattle.depot_rows.specs.depot_model.Records.{record_of, unplaced}
use Rattle.depot_rows.specs.depot_model.Rules.{IsSound, IsSpelled}
use Rattle.row_reads.specs.Views.{lines_or_none, view_in_form, view_or_none, view_in_row}

placed : (client : List ℕ) (row : Option Record) → view_in_row client (option_map unplaced row) ≡ view_in_row client row
placed client None = refl
placed client (Some (records.Domain r)) = refl
placed client (Some (records.Rev r)) = refl
placed client (Some (records.Counter r)) = refl
placed client (Some (records.Group r)) = refl
placed client (Some (records.Protect r)) = refl
placed client (Some (records.Have r)) = refl
placed client (Some (records.Label r)) = refl
placed client (Some (records.Integed r)) = refl
placed client (Some (records.Resolve r)) = refl
placed client (Some (records.Working r)) = refl
placed client (Some (records.Change r)) = refl

-- the row of a saved form
abbrev form_row : List ℕ → Option FormValue → Option Record
form_row client form = option_map (λ text. records.Domain (record { kind = codes "client"; name = client; form = text })) (option_map printed_form form)

-- the view of a saved form
abbrev form_view : List ℕ → Option FormValue → List ViewLine
form_view client (Some form) = view_in_form client form
form_view client None = []

of_form : (client : List ℕ) (form : Option FormValue) → IfSome form (IsSpelled ClientForm)
    → view_in_row client (form_row client form) ≡ (if is_some form then Some (form_view client form) else None)
of_form client None h = refl
of_form client (Some form) h =
    let shaped : form_of Client (printed_form form) ≡ Ok form = let P : Shape → Type 0 = λ s. form_of s (printed_form form) ≡ Ok form in subst P h.0 h.1 in
    ap (λ read. Some (view_or_none client read)) shaped

same_lines : (client : List ℕ) (read : Result (List ViewLine) ViewFault) → lines_or_none read ≡ elim read [ Ok lines ↦ lines | Err fault ↦ [] ]
same_lines client (Ok lines) = refl
same_lines client (Err fault) = refl

abbrev view_by : List ℕ → Option FormValue → List ViewLine
view_by client saved = elim saved [
  | None ↦ []
  | Some form ↦ elim (view_of client (lines_of form (codes "View"))) [ Ok lines ↦ lines | Err fault ↦ [] ]
]

same_view : (client : List ℕ) (form : Option FormValue) → form_view client form ≡ view_by client form
same_view client None = refl
same_view client (Some form) = same_lines client (view_of client (lines_of form (codes "View")))

pub view_read : (d : List Deed) (client : List ℕ) (row : Option Record) → IsSound d → option_map unplaced row ≡ record_of d (keys.Domain (codes "client") client)
    → view_in_row client row ≡ (if is_client d client then Some (view d client) else None)
view_read d client row sound is =
    sym (placed client row) ∙ ap (view_in_row client) is ∙ of_form client (spec d ClientForm client) (sound.forms_read ClientForm client)
    ∙ ap (λ lines. if is_client d client then Some lines else None) (same_view client (spec d ClientForm client))
