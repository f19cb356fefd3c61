-- The names and hosts of protection lines, in which `*` stands for any text (Command-Line Reference, "p4 protect"). Every other byte stands
-- for itself, `...` too, which is this project's own choice.
use Rattle.std.specs.Prelude.{◌≡◌, ℕ, ◌<◌, ◌≤◌, Bool, true, false, ◌&&◌, ◌||◌, List, [], ◌∷◌, length, drop, get_or, ◌==◌, if◌then◌else◌}

abbrev pub is_empty : List ℕ → Bool
is_empty [] = true
is_empty (b ∷ text) = false

-- what follows some first bytes of the text, or none of them, passes the test
abbrev pub at_some_place : (List ℕ → Bool) → List ℕ → Bool
at_some_place test [] = test []
at_some_place test (b ∷ text) = test (b ∷ text) || at_some_place test text

-- the text begins with the byte, and what follows passes the test
abbrev pub after_byte : ℕ → (List ℕ → Bool) → List ℕ → Bool
after_byte b test [] = false
after_byte b test (c ∷ text) = (b == c) && test text

abbrev pub fits_next : Bool → ℕ → (List ℕ → Bool) → List ℕ → Bool
fits_next true b rest text = at_some_place rest text
fits_next false b rest text = after_byte b rest text

-- the text is the word with any text in the place of each `*`
abbrev pub fits_word : List ℕ → List ℕ → Bool
fits_word [] text = is_empty text
fits_word (b ∷ word) text = fits_next (b == 0x2A) b (fits_word word) text

-- a row says at each place of the text whether the word fits from there on
pub record IsRow (word text : List ℕ) (row : List Bool) : Type 0 where
  pub size : length text < length row
  pub at : (k : ℕ) → k ≤ length text → get_or row k false ≡ fits_word word (drop k text)

-- whether a word that begins with a byte fits from a place on, by what is known of the rest of the word and of the next place
abbrev pub with_place : ℕ → ℕ → Bool → Bool → Bool → Bool
with_place b place here below next = if b == 0x2A then here || next else (b == place) && below

-- whether it fits the empty text at the end
abbrev pub at_end : ℕ → Bool → Bool
at_end b here = (b == 0x2A) && here
