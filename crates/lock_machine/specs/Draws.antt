-- Whose turn it is. Of the parties whose next event is enabled, in rising order, that one has the turn at whose place a number's value lies, modulo how
-- many they are. This project's own choice.
use Rattle.std.specs.Prelude.{◌≡◌, ℕ, ◌%◌, List, [], ◌∷◌, length, filter, slice_get, Option, Some, None}
use Rattle.std.specs.List.{range_with_len}
use Rattle.depot_model.specs.Tables.{needs_of}
use Rattle.lock_machine.specs.Machine.{State, event, is_enabled}
use Rattle.seeded_numbers.specs.Numbers.{next_number, value_of}
use Rattle.lock_machine.specs.Runs.{Event}

-- that of some, if there are any, which a value chooses
abbrev pub chosen : List ℕ → ℕ → Option ℕ
chosen [] value = None
chosen (i ∷ more) value = slice_get (i ∷ more) (value % length (i ∷ more))

-- the parties whose next event is enabled
abbrev pub enabled_parties : State → List ℕ
enabled_parties s = filter (is_enabled s) (range_with_len 0 (length s.parties))

-- the events are those of the parties that the numbers after a number draw, until no event is enabled
abbrev pub AreDrawn : ℕ → State → List Event → Type 0
AreDrawn x s [] = enabled_parties s ≡ []
AreDrawn x s (e ∷ es) =
    (chosen (enabled_parties s) (value_of (next_number x)) ≡ Some e.party) × AreDrawn (next_number x) (event needs_of s e.party e.how) es
