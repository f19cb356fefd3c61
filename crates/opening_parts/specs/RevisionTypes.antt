-- The type of a revision, by its row. This project's own choice.
use Rattle.std.specs.Prelude.{ℕ, List, codes, Option, Some, None}
use Rattle.depot_rows.specs.db_records.declared.rows.RevRecord.{RevRecord}

abbrev pub type_in : Option RevRecord → List ℕ
type_in None = codes "text"
type_in (Some r) = r.file_type
