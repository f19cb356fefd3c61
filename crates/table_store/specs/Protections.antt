-- The lines of the protections that rows have, and the table that these spell (Helix Core database schema reference, "db.protect"). That lines
-- of which one can't be read spell a table without lines is this project's own choice.
use Rattle.std.specs.Prelude.{ℕ, List, [], ◌∷◌, flat_map}
use Rattle.db_records.specs.Record.{line_text}
use Rattle.db_records.specs.declared.record.Record.{Record}
use Rattle.db_records.specs.declared.record.Record.TheVariants.{Protect}
use Rattle.protect_table.specs.Line.{read_lines}
use Rattle.protect_table.specs.declared.line.ProtectLine.{ProtectLine}

abbrev pub text_in : Record → List (List ℕ)
text_in (Protect r) = line_text r ∷ []
text_in _ = []

abbrev pub texts_in : List Record → List (List ℕ)
texts_in rows = flat_map text_in rows

abbrev pub protects_in : List Record → List ProtectLine
protects_in rows = read_lines (texts_in rows)
