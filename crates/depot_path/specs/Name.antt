-- Names of users, clients, hosts, groups, labels and counters. Helix Core bars the same characters from the names of its
-- specs (Command-Line Reference, "Limitations on characters in filenames and entities"); the most bytes are this project's own choice.
use Rattle.std.specs.Prelude.{ℕ, Bool, not, ◌&&◌, ◌||◌, nat_le, List, [], ◌∷◌, length, codes, ◌==◌, false, if◌then◌else◌, Result, Ok, Err}
use Rattle.std.specs.List.{list_any, list_all}
use Rattle.depot_path.specs.Bytes.{is_among, is_control, is_digit}
use Rattle.depot_path.specs.Utf8.{is_utf8}
use Rattle.depot_path.specs.declared.name.NameFault.{NameFault}
use Rattle.depot_path.specs.declared.name.NameFault.TheVariants.{NotAName}

-- a byte that no name holds
abbrev pub is_barred : ℕ → Bool
is_barred b = is_control b || is_among (codes " /@#*%\"") b

abbrev pub begins_with_dash : List ℕ → Bool
begins_with_dash [] = false
begins_with_dash (b ∷ text) = b == 0x2D

-- 1 to 128 bytes of UTF-8 without barred bytes, not beginning with `-`, not all digits
abbrev pub is_name : List ℕ → Bool
is_name text =
    nat_le 1 (length text) && nat_le (length text) 128 && not (begins_with_dash text)
    && not (list_any is_barred text) && not (list_all is_digit text) && is_utf8 text

-- the name that a text is
abbrev pub name_of : List ℕ → Result (List ℕ) NameFault
name_of text = if is_name text then Ok text else Err NotAName
