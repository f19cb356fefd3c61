use Rattle.std.specs.Prelude.{◌≡◌, ◌<◌, List, [], ◌++◌, length}
use Rattle.db_records.specs.declared.record.Record.{Record}
use Rattle.table_store.specs.declared.node.Parts.{Parts}
use Rattle.table_store.specs.declared.node.Parts.TheVariants as parts

-- the rows are those of no part, of one, or of two, and each part has rows
abbrev pub AreParts : {N : Type 0} → (N → List Record) → List Record → Parts N → Type 0
AreParts rows_in rows parts.None = rows ≡ []
AreParts rows_in rows (parts.One node) = (rows_in node ≡ rows) × (0 < length rows)
AreParts rows_in rows (parts.Two lower upper) = (rows_in lower ++ rows_in upper ≡ rows) × (0 < length (rows_in lower)) × (0 < length (rows_in upper))
