-- The rows with those of lines of the protections table, the first with a number. This project's own choice.
use Rattle.std.specs.Prelude.{ℕ, suc, List, [], ◌∷◌}
use Rattle.depot_rows.specs.protect_table.Words.{words_of}
use Rattle.depot_rows.specs.db_records.declared.key.Key.TheVariants as keys
use Rattle.depot_rows.specs.depot_model.Records.{protect_record}
use Rattle.depot_rows.specs.depot_model.Rules.{Rows}
use Rattle.depot_rows.specs.Effects.{put_at}

abbrev pub with_lines : ℕ → List (List ℕ) → Rows → Rows
with_lines n [] before = before
with_lines n (line ∷ lines) before = with_lines (suc n) lines (put_at (keys.Protect n) (protect_record n (words_of line)) before)
