-- In which line of a text a field begins, and in which its lines stand: what a fault in one of a form's lines is told by. A form
-- keeps no places, so these are of the text that it was read from. This project's own choice.
use Rattle.std.specs.Prelude.{ℕ, zero, suc, ◌+◌, Bool, true, false, not, ◌&&◌, ◌||◌, List, [], ◌∷◌, if◌then◌else◌}
use Rattle.std.specs.Str.{bytes_eq}
use Rattle.spec_form.specs.Texts.{before, behind, trimmed_start, text_lines}
use Rattle.spec_form.specs.Reading.{is_skipped, is_further}

-- a line begins the field of a name
abbrev pub begins_field : List ℕ → List ℕ → Bool
begins_field name line = not (is_skipped line) && not (is_further line) && bytes_eq (before 0x3A line) name

-- a line has a line of the field: what follows its name, or, while the field goes on, a further one
abbrev pub has_line : List ℕ → Bool → List ℕ → Bool
has_line name inside line = (inside && is_further line) || (begins_field name line && not (bytes_eq (trimmed_start (behind 0x3A line)) []))

-- the field goes on behind a line
abbrev pub is_inside : List ℕ → Bool → List ℕ → Bool
is_inside name inside line = if is_skipped line || is_further line then inside else bytes_eq (before 0x3A line) name

-- a number in front of others, if so
abbrev pub front_if : Bool → ℕ → List ℕ → List ℕ
front_if true n places = n ∷ places
front_if false n places = places

-- the places of a field's lines among some lines, of which the first is the n-th
abbrev pub places_from : List ℕ → Bool → ℕ → List (List ℕ) → List ℕ
places_from name inside n [] = []
places_from name inside n (line ∷ lines) = front_if (has_line name inside line) n (places_from name (is_inside name inside line) (n + 1) lines)

-- the places of the lines that begin the field
abbrev pub heads_from : List ℕ → ℕ → List (List ℕ) → List ℕ
heads_from name n [] = []
heads_from name n (line ∷ lines) = front_if (begins_field name line) n (heads_from name (n + 1) lines)

-- the k-th of some numbers, counted from 0; 0 where there are fewer
abbrev pub number_at : ℕ → List ℕ → ℕ
number_at k [] = 0
number_at zero (n ∷ places) = n
number_at (suc k) (n ∷ places) = number_at k places

-- the place of a field's k-th line, counted from 0, and of the line that begins the field; both counted from 1, 0 where there is none
abbrev pub line_place : List ℕ → List ℕ → ℕ → ℕ
line_place text name k = number_at k (places_from name false 1 (text_lines text))

abbrev pub field_place : List ℕ → List ℕ → ℕ
field_place text name = number_at 0 (heads_from name 1 (text_lines text))
