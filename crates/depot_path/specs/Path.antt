-- Depot paths: `//`, the name of a depot or client, and the components below it, with `/` between them. The bytes `@`, `#`, `*` and `%` of a
-- name are written as `%40`, `%23`, `%2A` and `%25` (Command-Line Reference, "File specifications", "Limitations on characters in filenames
-- and entities"). Contracts see a path as its bytes without escapes. The most bytes, and which fault comes first, are this project's own choice.
use Rattle.std.specs.Prelude.{ℕ, zero, suc, Bool, not, ◌&&◌, ◌||◌, nat_le, nat_lt, List, [], ◌∷◌, length, drop, flat_map, ◌==◌, codes, if◌then◌else◌, is_none, unwrap_or, Option, Some, None, Result, Ok, Err}
use Rattle.std.specs.List.{list_any, slice_split}
use Rattle.depot_path.specs.Bytes.{is_among, is_control, same, begins_with, at_some_byte}
use Rattle.depot_path.specs.Utf8.{is_utf8}
use Rattle.depot_path.specs.declared.fault.PathFault.{PathFault}
use Rattle.depot_path.specs.declared.fault.PathFault.TheVariants.{NoSlashes, EmptyPart, BadEscape, BadByte, TooLong, Dots}

-- a byte as it is printed
abbrev pub escaped : ℕ → List ℕ
escaped b =
    if b == 0x40 then codes "%40" else
    (if b == 0x23 then codes "%23" else
    (if b == 0x2A then codes "%2A" else
    (if b == 0x25 then codes "%25" else b ∷ [])))

-- the text of a path
abbrev pub printed : List ℕ → List ℕ
printed path = flat_map escaped path

-- the byte of the escape with which a text begins; the letter is read in both cases
abbrev pub escape_at : List ℕ → Option ℕ
escape_at text =
    if begins_with text (codes "%40") then Some 0x40 else
    (if begins_with text (codes "%23") then Some 0x23 else
    (if begins_with text (codes "%2A") || begins_with text (codes "%2a") then Some 0x2A else
    (if begins_with text (codes "%25") then Some 0x25 else None)))

-- the byte that the text's beginning spells, and how many bytes more than one it has
abbrev pub first_byte : ℕ → List ℕ → ℕ
first_byte b text = unwrap_or (escape_at (b ∷ text)) b

abbrev pub further_bytes : List ℕ → ℕ
further_bytes text = if is_none (escape_at text) then 0 else 2

-- the bytes that a text spells; the first `passed` bytes are the end of an escape
abbrev pub unescaped : ℕ → List ℕ → List ℕ
unescaped passed [] = []
unescaped (suc passed) (b ∷ text) = unescaped passed text
unescaped zero (b ∷ text) = first_byte b text ∷ unescaped (further_bytes (b ∷ text)) text

-- what stands between the slashes, after the first two
abbrev pub components : List ℕ → List (List ℕ)
components text = slice_split (λ b. b == 0x2F) (drop 2 text)

abbrev pub begins_with_slashes : List ℕ → Bool
begins_with_slashes text = begins_with text (codes "//")

abbrev pub has_empty_component : List ℕ → Bool
has_empty_component text = list_any (same []) (components text)

-- a component is `.` or `..`
abbrev pub has_dot_component : List ℕ → Bool
has_dot_component text = list_any (λ part. same part (codes ".") || same part (codes "..")) (components text)

-- a component holds `...`
abbrev pub has_three_dots : List ℕ → Bool
has_three_dots text = at_some_byte (λ rest. begins_with rest (codes "...")) text

-- a `%` that begins no escape
abbrev pub has_bad_escape : List ℕ → Bool
has_bad_escape text = at_some_byte (λ rest. begins_with rest (codes "%") && is_none (escape_at rest)) text

abbrev pub is_text : List ℕ → Bool
is_text text = is_utf8 text && not (list_any is_control text)

-- a path, given as its bytes without escapes
abbrev pub is_path : List ℕ → Bool
is_path path =
    nat_le (length (printed path)) 1024
    && begins_with_slashes path
    && nat_le 2 (length (components path)) && not (has_empty_component path)
    && is_text path
    && not (has_dot_component path) && not (has_three_dots path)

-- the first of the tests that holds
abbrev pub first_fault : List (Bool × PathFault) → Option PathFault
first_fault [] = None
first_fault (test ∷ tests) = if test.0 then Some test.1 else first_fault tests

-- the value, where there is no fault
abbrev pub unless : {A : Type 0} → Option PathFault → A → Result A PathFault
unless None value = Ok value
unless (Some fault) value = Err fault

-- why a text is no path
abbrev pub path_fault : List ℕ → Option PathFault
path_fault text = first_fault (
    (nat_lt 1024 (length text), TooLong)
    ∷ (not (begins_with_slashes text), NoSlashes)
    ∷ (nat_lt (length (components text)) 2 || has_empty_component text, EmptyPart)
    ∷ (has_bad_escape text, BadEscape)
    ∷ (list_any (is_among (codes "@#*")) text || not (is_text text), BadByte)
    ∷ (has_dot_component text || has_three_dots text, Dots)
    ∷ [])

-- the path that a text spells, or the first fault
abbrev pub path_of : List ℕ → Result (List ℕ) PathFault
path_of text = unless (path_fault text) (unescaped 0 text)

-- ---- paths that are printed as they are kept

-- a byte that means itself alone, and may stand behind the other one: no second slash, and no dot behind a slash or a dot
abbrev pub is_plain_after : ℕ → ℕ → Bool
is_plain_after before b =
    nat_le 0x20 b && nat_le b 0x7E && not (is_among (codes "@#*%") b)
    && not ((b == 0x2F) && (before == 0x2F)) && not ((b == 0x2E) && ((before == 0x2F) || (before == 0x2E)))

-- each byte may stand behind the one before it, and the last is no slash
abbrev pub are_plain_after : ℕ → List ℕ → Bool
are_plain_after before [] = not (before == 0x2F)
are_plain_after before (b ∷ text) = is_plain_after before b && are_plain_after b text

-- two components or more, as they stand behind the two slashes
abbrev pub are_plain_components : List ℕ → Bool
are_plain_components text = is_among text 0x2F && are_plain_after 0x2F text

-- a path of printing ASCII bytes without escapes, none of whose components begins with a dot or has two in a row
abbrev pub is_plain_path : List ℕ → Bool
is_plain_path text = nat_le (length text) 1024 && begins_with_slashes text && are_plain_components (drop 2 text)
