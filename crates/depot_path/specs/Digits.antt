-- Words of digits, and the numbers that they spell. Leading zeros are digits; that numbers end at a limit is this project's own choice.
use Rattle.std.specs.Prelude.{ℕ, ◌+◌, ◌-◌, ◌*◌, nat_le, ◌&&◌, Bool, fold, List, length, if◌then◌else◌, Option, Some, None}
use Rattle.std.specs.List.{list_all}
use Rattle.depot_path.specs.Bytes.{is_digit}

abbrev pub is_digits : List ℕ → Bool
is_digits word = nat_le 1 (length word) && list_all is_digit word

-- the number with one more digit behind it
abbrev pub with_digit : ℕ → ℕ → ℕ
with_digit n digit = n * 10 + (digit - 0x30)

-- the number that digits spell
abbrev pub number_of : List ℕ → ℕ
number_of digits = fold with_digit 0 digits

-- digits whose number isn't above the limit
abbrev pub is_number : ℕ → List ℕ → Bool
is_number most word = is_digits word && nat_le (number_of word) most

abbrev pub number_up_to : ℕ → List ℕ → Option ℕ
number_up_to most word = if is_number most word then Some (number_of word) else None

-- a number, where it isn't above the limit
abbrev pub up_to : ℕ → ℕ → Option ℕ
up_to most n = if nat_le n most then Some n else None
