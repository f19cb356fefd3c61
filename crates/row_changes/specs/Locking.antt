-- What a Hold among deeds needs of the rows that it finds. This project's own choice.
use Rattle.std.specs.Prelude.{Bool, true, false, List, [], ◌∷◌}
use Rattle.depot_rows.specs.depot_model.Rules.{Rows}
use Rattle.depot_rows.specs.declared.deed.Deed.{Deed}
use Rattle.depot_rows.specs.declared.deed.Deed.TheVariants as deeds
use Rattle.depot_rows.specs.Effects.{effect, IsFree}

-- the deed locks a file
abbrev pub is_hold : Deed → Bool
is_hold (deeds.Hold held) = true
is_hold _ = false

-- a file that is to be locked has no lock of another client
abbrev pub MayLock : Deed → Rows → Type 0
MayLock (deeds.Hold held) before = IsFree held before
MayLock _ before = Unit {0}

abbrev pub AllMayLock : List Deed → Rows → Type 0
AllMayLock [] before = Unit {0}
AllMayLock (deed ∷ deeds) before = MayLock deed before × AllMayLock deeds (effect deed before)
