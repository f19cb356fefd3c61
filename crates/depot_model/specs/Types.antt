-- File types: `text` or `binary`, and modifiers `x`, `w`, `l`, `F`, each at most once (Command-Line Reference, "File types"). That these
-- are the types, and the order in which modifiers are printed, are this project's own choice.
use Rattle.std.specs.Prelude.{ℕ, ◌+◌, ◌==◌, Bool, not, ◌&&◌, ◌||◌, nat_le, List, ◌++◌, length, filter, take_while, count_by, drop, codes, if◌then◌else◌}
use Rattle.std.specs.List.{list_all}
use Rattle.db_records.specs.depot_path.Bytes.{same, is_among}

abbrev pub base_type : List ℕ → List ℕ
base_type text = take_while (λ b. not (b == 0x2B)) text

abbrev pub modifiers : List ℕ → List ℕ
modifiers text = drop (length (base_type text) + 1) text

abbrev pub is_base : List ℕ → Bool
is_base text = same text (codes "text") || same text (codes "binary")

abbrev pub are_modifiers : List ℕ → Bool
are_modifiers letters = nat_le 1 (length letters) && list_all (λ b. is_among (codes "xwlF") b && (count_by (λ c. c == b) letters == 1)) letters

abbrev pub is_type : List ℕ → Bool
is_type text = is_base (base_type text) && (same text (base_type text) || are_modifiers (modifiers text))

-- a type as it is printed, its modifiers in order
abbrev pub printed_type : List ℕ → List ℕ
printed_type text =
    if same text (base_type text) then text else base_type text ++ codes "+" ++ filter (λ b. is_among (modifiers text) b) (codes "xwlF")

abbrev pub is_printed_type : List ℕ → Bool
is_printed_type text = is_type text && same (printed_type text) text
