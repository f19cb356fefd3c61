-- Saved forms, and their names, as rows have them (Helix Core database schema reference, "db.domain"). That a form that can't be read is none is
-- this project's own choice; no sound depot has one.
use Rattle.std.specs.Prelude.{ℕ, List, [], ◌∷◌, flat_map, Option, Some, None}
use Rattle.std.specs.Result.{result_ok}
use Rattle.depot_rows.specs.db_records.declared.record.Record.{Record}
use Rattle.depot_rows.specs.db_records.declared.record.Record.TheVariants.{Domain}
use Rattle.depot_rows.specs.spec_form.Form.{FormValue}
use Rattle.depot_rows.specs.spec_form.Reading.{form_of}
use Rattle.depot_rows.specs.spec_form.declared.shape.Shape.{Shape}

abbrev pub form_in : Shape → Option Record → Option FormValue
form_in shape (Some (Domain r)) = result_ok (form_of shape r.form)
form_in shape _ = None

abbrev pub name_in : Record → List (List ℕ)
name_in (Domain r) = r.name ∷ []
name_in _ = []

abbrev pub names_in : List Record → List (List ℕ)
names_in rows = flat_map name_in rows
