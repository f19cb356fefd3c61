-- The first refusal that holds. This project's own choice.
use Rattle.std.specs.Prelude.{List, [], ◌∷◌, Option, Some, None}
use Rattle.depot_rows.specs.depot_model.declared.refusal.Refusal.{Refusal}

abbrev pub first_of : List (Option Refusal) → Option Refusal
first_of [] = None
first_of (None ∷ tests) = first_of tests
first_of (Some why ∷ tests) = Some why
