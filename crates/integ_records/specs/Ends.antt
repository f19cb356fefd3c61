-- The first and the last of some revisions. This project's own choice.
use Rattle.std.specs.Prelude.{ℕ, List, [], ◌∷◌, Option, Some, None}
use Rattle.integ_records.specs.declared.crediting.Span.{Span}

-- with a further revision behind them
abbrev pub widened : Option Span → ℕ → Span
widened None n = record { first = n; last = n }
widened (Some ends) n = record { first = ends.first; last = n }

abbrev pub ends_from : Option Span → List ℕ → Option Span
ends_from ends [] = ends
ends_from ends (n ∷ revs) = ends_from (Some (widened ends n)) revs

abbrev pub ends_of : List ℕ → Option Span
ends_of revs = ends_from None revs

-- the last one, 0 for none
abbrev pub last_in : Option Span → ℕ
last_in None = 0
last_in (Some ends) = ends.last
