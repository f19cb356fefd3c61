-- The files that are shelved in a change, as the rows of forms have them: the name of such a form is the number of the change, a space and the path
-- of the file (Helix Core database schema reference, "db.domain"). That a row whose path isn't one as it is printed is passed over is this
-- project's own choice; no sound depot has one.
use Rattle.std.specs.Prelude.{ℕ, Bool, List, [], ◌∷◌, ◌++◌, codes, decimal, drop, flat_map, if◌then◌else◌, length, Option, Some, None, is_some}
use Rattle.depot_rows.specs.depot_path.Bytes.{begins_with, same}
use Rattle.depot_rows.specs.db_records.declared.key.Key.{Key}
use Rattle.depot_rows.specs.db_records.declared.key.Key.TheVariants as keys
use Rattle.depot_rows.specs.db_records.declared.record.Record.{Record}
use Rattle.depot_rows.specs.db_records.declared.record.Record.TheVariants.{Domain}
use Rattle.named_files.specs.Listed.{paths_in}

-- what the names of the forms of a change begin with
abbrev pub beginning : ℕ → List ℕ
beginning n = decimal n ++ 0x20 ∷ []

-- what stands in a name behind its beginning
abbrev pub behind : List ℕ → List ℕ → Option (List ℕ)
behind start name = if begins_with name start then Some (drop (length start) name) else None

-- what stands behind the beginning in the name of the form of a shelved file
abbrev pub shelf_text : List ℕ → Record → Option (List ℕ)
shelf_text start (Domain r) = if same r.kind (codes "shelf") then behind start r.name else None
shelf_text start _ = None

abbrev pub is_of_shelf : List ℕ → Record → Bool
is_of_shelf start row = is_some (shelf_text start row)

-- the file of a row
abbrev pub shelf_file : List ℕ → Record → List (List ℕ)
shelf_file start row = paths_in (shelf_text start row)

-- the files of rows
abbrev pub shelf_files : List ℕ → List Record → List (List ℕ)
shelf_files start rows = flat_map (shelf_file start) rows

-- the least key of such rows
abbrev pub first_key : List ℕ → Key
first_key start = keys.Domain (codes "shelf") start

-- the first rows, as long as they are such, where the end isn't reached
abbrev pub leading : List ℕ → List Record → List Record
leading start [] = []
leading start (row ∷ rows) = if is_of_shelf start row then row ∷ leading start rows else []

abbrev pub ahead : Option (List ℕ) → List Record → List Record
ahead None rows = []
ahead (Some start) rows = leading start rows
