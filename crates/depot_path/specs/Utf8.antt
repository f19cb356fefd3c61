-- UTF-8, by the table of well-formed byte sequences (RFC 3629, section 4).
use Rattle.std.specs.Prelude.{ℕ, ◌-◌, Bool, false, ◌&&◌, nat_le, List, [], ◌∷◌, if◌then◌else◌, ◌==◌, Option, Some, None}
use Rattle.depot_path.specs.declared.utf8.Tail.{Tail}

abbrev pub is_between : ℕ → ℕ → ℕ → Bool
is_between low high b = nat_le low b && nat_le b high

-- so many bytes follow, and the next is between these two
abbrev pub tail : ℕ → ℕ → ℕ → Tail
tail more low high = record { more = more; low = low; high = high }

-- what follows the first byte of a character
abbrev pub tail_of : ℕ → Option Tail
tail_of b =
    if nat_le b 0x7F then Some (tail 0 0x80 0xBF) else
    (if is_between 0xC2 0xDF b then Some (tail 1 0x80 0xBF) else
    (if b == 0xE0 then Some (tail 2 0xA0 0xBF) else
    (if b == 0xED then Some (tail 2 0x80 0x9F) else
    (if is_between 0xE1 0xEF b then Some (tail 2 0x80 0xBF) else
    (if b == 0xF0 then Some (tail 3 0x90 0xBF) else
    (if is_between 0xF1 0xF3 b then Some (tail 3 0x80 0xBF) else
    (if b == 0xF4 then Some (tail 3 0x80 0x8F) else None)))))))

-- what follows after one more byte: the next of a character, or the first of another
abbrev pub tail_past : Tail → ℕ → Option Tail
tail_past t b =
    if t.more == 0 then tail_of b else
    (if is_between t.low t.high b then Some (tail (t.more - 1) 0x80 0xBF) else None)

-- the bytes go on from there to the end of a character
abbrev pub goes_on : Option Tail → List ℕ → Bool
goes_on None bytes = false
goes_on (Some t) [] = t.more == 0
goes_on (Some t) (b ∷ bytes) = goes_on (tail_past t b) bytes

abbrev pub is_utf8 : List ℕ → Bool
is_utf8 bytes = goes_on (Some (tail 0 0x80 0xBF)) bytes
