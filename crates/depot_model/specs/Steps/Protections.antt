-- `protect -o`, `protect -i` (Command-Line Reference, "p4 protect").
use Rattle.std.specs.Prelude.{ℕ, List, [], ◌∷◌, ◌++◌, map, codes, Ok, Err, nat_lt, length, decimal, ◌-◌}
use Rattle.std.specs.List.{enumerate_from, join_with_byte}
use Rattle.spec_form.specs.declared.shape.Shape.TheVariants.{Protect}
use Rattle.spec_form.specs.Reading.{form_of}
use Rattle.spec_form.specs.Form.{lines_of}
use Rattle.protect_table.specs.Line.{table_of as protects_of}
use Rattle.protect_table.specs.Words.{words_of}
use Rattle.depot_model.specs.declared.reply.Field.{Field}
use Rattle.depot_model.specs.declared.refusal.Refusal.TheVariants.{BadForm, OverLimit}
use Rattle.depot_model.specs.declared.refusal.Limit.TheVariants.{Protections}
use Rattle.depot_model.specs.Deeds.{Deed, Guard}
use Rattle.depot_model.specs.Latest.{guard_lines}
use Rattle.depot_model.specs.Rows.{row, text_field}
use Rattle.depot_model.specs.Step.{Step, tells, does, refuses, unless, refuse_if}
use Rattle.spec_form.specs.Places.{line_place}

-- the five words of a line with one space between
abbrev pub kept_line : List ℕ → List ℕ
kept_line line = join_with_byte 0x20 (words_of line)

abbrev pub numbered : ℕ × List ℕ → Field
numbered line = text_field (codes "Protections" ++ decimal line.0) line.1

abbrev pub protect_show : List Deed → Step
protect_show d = tells (row (map numbered (enumerate_from 0 (map kept_line (guard_lines d)))) ∷ [])

abbrev pub saved : List ℕ → List (List ℕ) → Step
saved input lines = elim (protects_of lines) [
  | Err fault ↦ refuses (BadForm (line_place input (codes "Protections") (fault.line - 1)))
  | Ok protects ↦ unless (refuse_if (nat_lt 1000 (length lines)) (OverLimit Protections) ∷ [])
      (does (Guard (map kept_line lines) ∷ []) (row (text_field (codes "action") (codes "saved") ∷ [])))
]

abbrev pub protect_save : List ℕ → Step
protect_save input =
    elim (form_of Protect input) [ Err fault ↦ refuses (BadForm fault.line) | Ok form ↦ saved input (lines_of form (codes "Protections")) ]
