-- The view of a client as its row has it (Helix Core database schema reference, "db.domain"). That a form or a view that can't be read has no
-- lines is this project's own choice; no sound depot has one.
use Rattle.std.specs.Prelude.{ℕ, List, [], codes, Option, Some, None, Result, Ok, Err}
use Rattle.depot_rows.specs.db_records.declared.record.Record.{Record}
use Rattle.depot_rows.specs.db_records.declared.record.Record.TheVariants.{Domain}
use Rattle.depot_rows.specs.spec_form.Form.{FormValue, lines_of}
use Rattle.depot_rows.specs.spec_form.Reading.{form_of}
use Rattle.depot_rows.specs.spec_form.declared.fault.FormFault.{FormFault}
use Rattle.depot_rows.specs.spec_form.declared.shape.Shape.TheVariants.{Client}
use Rattle.depot_rows.specs.view_map.Reading.{view_of}
use Rattle.depot_rows.specs.view_map.declared.fault.ViewFault.{ViewFault}
use Rattle.depot_rows.specs.view_map.declared.line.ViewLine.{ViewLine}

abbrev pub lines_or_none : Result (List ViewLine) ViewFault → List ViewLine
lines_or_none (Ok lines) = lines
lines_or_none (Err fault) = []

abbrev pub view_in_form : List ℕ → FormValue → List ViewLine
view_in_form client form = lines_or_none (view_of client (lines_of form (codes "View")))

abbrev pub view_or_none : List ℕ → Result FormValue FormFault → List ViewLine
view_or_none client (Ok form) = view_in_form client form
view_or_none client (Err fault) = []

abbrev pub view_in : List ℕ → List ℕ → List ViewLine
view_in client text = view_or_none client (form_of Client text)

abbrev pub view_in_row : List ℕ → Option Record → Option (List ViewLine)
view_in_row client (Some (Domain r)) = Some (view_in client r.form)
view_in_row client _ = None
