-- Lines of a text, and blanks at the ends of a line.
use Rattle.std.specs.Prelude.{ℕ, ◌==◌, Bool, ◌||◌, List, [], ◌∷◌, reverse, if◌then◌else◌}

-- a space or a tab
abbrev pub is_blank : ℕ → Bool
is_blank b = (b == 0x20) || (b == 0x09)

-- a line without the blanks before it
abbrev pub trimmed_start : List ℕ → List ℕ
trimmed_start [] = []
trimmed_start (b ∷ line) = if is_blank b then trimmed_start line else b ∷ line

-- a line without the blanks behind it
abbrev pub trimmed_end : List ℕ → List ℕ
trimmed_end line = reverse (trimmed_start (reverse line))

-- what stands before the first byte c of a text, and behind it
abbrev pub before : ℕ → List ℕ → List ℕ
before c [] = []
before c (b ∷ text) = if b == c then [] else b ∷ before c text

abbrev pub behind : ℕ → List ℕ → List ℕ
behind c [] = []
behind c (b ∷ text) = if b == c then text else behind c text

-- a byte before the first of some lines
abbrev pub onto_first : ℕ → List (List ℕ) → List (List ℕ)
onto_first b [] = (b ∷ []) ∷ []
onto_first b (line ∷ lines) = (b ∷ line) ∷ lines

abbrev pub byte_before : ℕ → List (List ℕ) → List (List ℕ)
byte_before b lines = if b == 0x0A then [] ∷ lines else onto_first b lines

-- the lines of a text: LF ends a line, and what follows the last LF is a line if there is any
abbrev pub text_lines : List ℕ → List (List ℕ)
text_lines [] = []
text_lines (b ∷ text) = byte_before b (text_lines text)
