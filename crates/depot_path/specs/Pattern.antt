-- Patterns of file specifications and views: `//` and one or more components, in which `*` stands for any text without `/`, `...` for any
-- text, and in views `%%1` to `%%9` as `*` does (Command-Line Reference, "File specifications", "Views"). Contracts see a pattern as the list of its
-- pieces. A run of dots is read from the left, three at a time.
use Rattle.std.specs.Prelude.{ℕ, zero, suc, ◌-◌, Bool, false, not, ◌&&◌, ◌||◌, nat_lt, List, [], ◌∷◌, length, ◌==◌, codes, if◌then◌else◌, is_some, unwrap_or, Option, Some, None, Result}
use Rattle.std.specs.List.{list_any}
use Rattle.depot_path.specs.Bytes.{is_among, begins_with}
use Rattle.depot_path.specs.Utf8.{is_between}
use Rattle.depot_path.specs.Path.{escape_at, begins_with_slashes, has_empty_component, has_dot_component, is_text, first_fault, unless}
use Rattle.depot_path.specs.declared.fault.PathFault.{PathFault}
use Rattle.depot_path.specs.declared.fault.PathFault.TheVariants.{NoSlashes, EmptyPart, BadEscape, BadByte, TooLong, Dots as DotsFault}
use Rattle.depot_path.specs.declared.piece.Piece.{Piece}
use Rattle.depot_path.specs.declared.piece.Piece.TheVariants.{Byte, Star, Dots, Place}

-- the k of a `%%k` with which a text begins, where these are read
abbrev pub place_at : Bool → List ℕ → Option ℕ
place_at positional (a ∷ b ∷ k ∷ text) = if positional && (a == 0x25) && (b == 0x25) && is_between 0x31 0x39 k then Some (k - 0x30) else None
place_at positional _ = None

abbrev pub place_or : Option ℕ → Piece → Piece
place_or (Some k) piece = Place k
place_or None piece = piece

-- the piece with which a text begins, whose first byte is b
abbrev pub piece_at : Bool → List ℕ → ℕ → Piece
piece_at positional text b =
    if begins_with text (codes "...") then Dots else
    (if b == 0x2A then Star else
    place_or (place_at positional text) (Byte (unwrap_or (escape_at text) b)))

-- how many bytes it has after the first
abbrev pub more_bytes : Bool → List ℕ → ℕ
more_bytes positional text =
    if begins_with text (codes "...") || is_some (place_at positional text) || is_some (escape_at text) then 2 else 0

-- the pieces that a text spells; the first `passed` bytes are the end of a piece
abbrev pub pieces : Bool → ℕ → List ℕ → List Piece
pieces positional passed [] = []
pieces positional (suc passed) (b ∷ text) = pieces positional passed text
pieces positional zero (b ∷ text) = piece_at positional (b ∷ text) b ∷ pieces positional (more_bytes positional (b ∷ text)) text

-- a `%` that begins no escape, and no `%%k` where these are read
abbrev pub has_bad_percent : Bool → ℕ → List ℕ → Bool
has_bad_percent positional passed [] = false
has_bad_percent positional (suc passed) (b ∷ text) = has_bad_percent positional passed text
has_bad_percent positional zero (b ∷ text) =
    ((b == 0x25) && (more_bytes positional (b ∷ text) == 0)) || has_bad_percent positional (more_bytes positional (b ∷ text)) text

-- why a text is no pattern
abbrev pub pattern_fault : Bool → List ℕ → Option PathFault
pattern_fault positional text = first_fault (
    (nat_lt 1024 (length text), TooLong)
    ∷ (not (begins_with_slashes text), NoSlashes)
    ∷ (has_empty_component text, EmptyPart)
    ∷ (has_bad_percent positional 0 text, BadEscape)
    ∷ (list_any (is_among (codes "@#")) text || not (is_text text), BadByte)
    ∷ (has_dot_component text, DotsFault)
    ∷ [])

-- the pattern that a text spells, or the first fault
abbrev pub pattern_of : Bool → List ℕ → Result (List Piece) PathFault
pattern_of positional text = unless (pattern_fault positional text) (pieces positional 0 text)

-- the bytes before the first specifier, with which every path begins that fits
abbrev pub literal : List Piece → List ℕ
literal [] = []
literal (Byte b ∷ pattern) = b ∷ literal pattern
literal (specifier ∷ pattern) = []
