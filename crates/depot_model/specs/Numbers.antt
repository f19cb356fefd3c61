-- Numbers of changes: those that are pending, and the greatest (Command-Line Reference, "p4 change", "p4 submit").
use Rattle.std.specs.Prelude.{ℕ, max, ◌==◌, List, [], ◌∷◌, Option, Some, None, find}
use Rattle.std.specs.Option.{option_flatten}
use Rattle.depot_model.specs.Deeds.{Deed, Pend, Drop, Land, Pending, Landing}
use Rattle.depot_model.specs.Latest.{latest, when}

-- a change as it is pending, unless it was dropped or landed since
abbrev pub pending_said : ℕ → Deed → Option (Option Pending)
pending_said n (Pend p) = when (p.change == n) (Some p)
pending_said n (Drop m) = when (m == n) None
pending_said n (Land l) = when (l.change == n) None
pending_said n _ = None

abbrev pub pending : List Deed → ℕ → Option Pending
pending d n = option_flatten (latest (pending_said n) d)

-- the greatest number in a pending or landed change, 0 where there is none
abbrev pub top : List Deed → ℕ
top [] = 0
top (Pend p ∷ d) = max p.change (top d)
top (Land l ∷ d) = max l.change (top d)
top (_ ∷ d) = top d

-- the changes that landed, the last first
abbrev pub landings : List Deed → List Landing
landings [] = []
landings (Land l ∷ d) = l ∷ landings d
landings (_ ∷ d) = landings d

-- the change of a number that landed
abbrev pub landing : List Deed → ℕ → Option Landing
landing d n = find (λ (l : Landing). l.change == n) (landings d)
