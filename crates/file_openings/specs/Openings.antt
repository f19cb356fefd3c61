-- The openings of a file, by the names of clients (Command-Line Reference, "p4 opened", option -a; Helix Core database schema reference,
-- "db.working").
use Rattle.std.specs.Prelude.{ℕ, List, [], ◌∷◌, filter_map, Option, Some, None, option_and_then}
use Rattle.depot_rows.specs.db_records.declared.record.Record.{Record}
use Rattle.depot_rows.specs.db_records.declared.record.Record.TheVariants.{Working}
use Rattle.depot_rows.specs.db_records.declared.rows.WorkingRecord.{WorkingRecord}
use Rattle.depot_rows.specs.depot_model.Deeds.{Deed, Opening}
use Rattle.depot_rows.specs.depot_model.Opened.{opened}
use Rattle.depot_rows.specs.depot_model.Steps.Opening.{openers}

abbrev pub openings : List Deed → List ℕ → List Opening
openings d path = filter_map (λ client. opened d client path) (openers d path)

-- the rows that are of opened files
abbrev pub workings : List Record → List WorkingRecord
workings [] = []
workings (Working r ∷ rows) = r ∷ workings rows
workings (_ ∷ rows) = workings rows

-- the row of an opened file, if it is one
abbrev pub working_in : Record → Option WorkingRecord
working_in (Working r) = Some r
working_in _ = None

abbrev pub working_of : Option Record → Option WorkingRecord
working_of row = option_and_then working_in row
