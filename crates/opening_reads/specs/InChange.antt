-- The openings of a client in a change, 0 for the default one (Command-Line Reference, "p4 opened", "p4 submit").
use Rattle.std.specs.Prelude.{ℕ, Bool, ◌==◌, List, [], ◌∷◌, filter, filter_map, if◌then◌else◌, Option, Some, None}
use Rattle.depot_rows.specs.db_records.declared.record.Record.{Record}
use Rattle.depot_rows.specs.db_records.declared.record.Record.TheVariants.{Working}
use Rattle.depot_rows.specs.db_records.declared.rows.WorkingRecord.{WorkingRecord}
use Rattle.depot_rows.specs.depot_model.Arguments.{opened_by}
use Rattle.depot_rows.specs.depot_model.Deeds.{Deed, Opening}
use Rattle.depot_rows.specs.depot_model.Opened.{opened}
use Rattle.depot_rows.specs.declared.deed.Opening.{Opening as DeedOpening}
use Rattle.opening_reads.specs.Read.{opening_in_row, path_in_text}

abbrev pub is_in : ℕ → Opening → Bool
is_in n o = o.change == n

-- those of the client, in path order: of the caller's client the openings that a submit takes
abbrev pub opened_in : List Deed → List ℕ → ℕ → List Opening
opened_in d client n = filter (is_in n) (filter_map (opened d client) (opened_by d client))

-- the opening of a row, where it is one of the change and its path is one
abbrev pub opening_at : List ℕ → WorkingRecord → Option (List ℕ) → List DeedOpening
opening_at client r None = []
opening_at client r (Some path) = opening_in_row client path r None None ∷ []

abbrev pub opening_of_row : List ℕ → ℕ → Record → List DeedOpening
opening_of_row client n (Working r) = if r.change == n then opening_at client r (path_in_text r.path) else []
opening_of_row client n _ = []
