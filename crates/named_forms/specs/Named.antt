-- Forms of a kind whose names begin with a text, as rows have them (Helix Core database schema reference, "db.domain").
use Rattle.std.specs.Prelude.{ℕ, Bool, false, ◌&&◌, List, [], ◌∷◌, if◌then◌else◌}
use Rattle.depot_rows.specs.depot_path.Bytes.{begins_with, same}
use Rattle.depot_rows.specs.db_records.declared.record.Record.{Record}
use Rattle.depot_rows.specs.db_records.declared.record.Record.TheVariants.{Domain}

-- a row of such a form, by the word of its kind
abbrev pub is_named : List ℕ → List ℕ → Record → Bool
is_named word start (Domain r) = same word r.kind && begins_with r.name start
is_named word start _ = false

-- the first rows, as long as they are such
abbrev pub leading : List ℕ → List ℕ → List Record → List Record
leading word start [] = []
leading word start (row ∷ rows) = if is_named word start row then row ∷ leading word start rows else []
