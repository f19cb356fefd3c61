-- The lines of a form's field Files (Command-Line Reference, "p4 change").
use Rattle.std.specs.Prelude.{ℕ, ◌+◌, if◌then◌else◌, is_ok, List, [], ◌∷◌, Option, Some, None}
use Rattle.depot_rows.specs.depot_path.Path.{path_of}
use Rattle.depot_rows.specs.depot_model.Steps.Changing.{path_before_tab}

-- the place of the first line that is no path; the first line has the place k
abbrev pub first_bad : ℕ → List (List ℕ) → Option ℕ
first_bad k [] = None
first_bad k (line ∷ lines) = if is_ok (path_of (path_before_tab line)) then first_bad (k + 1) lines else Some k
