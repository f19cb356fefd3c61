-- Words about bytes and texts that the grammars share.
use Rattle.std.specs.Prelude.{ℕ, Bool, false, ◌==◌, ◌&&◌, ◌||◌, nat_eq, nat_le, nat_lt, List, [], ◌∷◌}
use Rattle.std.specs.List.{list_any, starts_with}
use Rattle.std.specs.Cmp.Lexicographic.{pointwise}

-- the byte is one of the text's
abbrev pub is_among : List ℕ → ℕ → Bool
is_among text b = list_any (λ x. x == b) text

-- a control byte: below the space, or DEL
abbrev pub is_control : ℕ → Bool
is_control b = nat_lt b 0x20 || (b == 0x7F)

-- an ASCII digit
abbrev pub is_digit : ℕ → Bool
is_digit b = nat_le 0x30 b && nat_le b 0x39

-- the two texts are one
abbrev pub same : List ℕ → List ℕ → Bool
same = pointwise nat_eq

-- the text begins with the other
abbrev pub begins_with : List ℕ → List ℕ → Bool
begins_with text start = starts_with nat_eq text start

-- the test holds for what begins at some byte of the text
abbrev pub at_some_byte : (List ℕ → Bool) → List ℕ → Bool
at_some_byte test [] = false
at_some_byte test (b ∷ text) = test (b ∷ text) || at_some_byte test text
