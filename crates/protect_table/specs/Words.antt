-- The words of a protection line, parted by spaces; a path with spaces stands in double quotes, and a word that begins with `##` and all
-- after it are a comment (Command-Line Reference, "p4 protect"). That spaces alone part words is this project's own choice.
use Rattle.std.specs.Prelude.{ℕ, suc, Bool, true, false, not, ◌&&◌, List, [], ◌∷◌, filter, ◌==◌, codes, if◌then◌else◌}
use Rattle.std.specs.List.{onto_first}
use Rattle.depot_path.specs.Bytes.{begins_with}

-- a space that parts words, outside quotes
abbrev pub parts_words : Bool → ℕ → Bool
parts_words quoted b = (b == 0x20) && not quoted

-- whether what follows a byte stands in quotes
abbrev pub quoted_after : Bool → ℕ → Bool
quoted_after quoted b = if b == 0x22 then not quoted else quoted

abbrev pub joined : Bool → ℕ → List (List ℕ) → List (List ℕ)
joined true b words = [] ∷ words
joined false b words = onto_first b words

-- what stands between the spaces of a text, which begins in quotes or outside them
abbrev pub between_spaces : Bool → List ℕ → List (List ℕ)
between_spaces quoted [] = [] ∷ []
between_spaces quoted (b ∷ text) = joined (parts_words quoted b) b (between_spaces (quoted_after quoted b) text)

abbrev pub is_word : List ℕ → Bool
is_word [] = false
is_word (b ∷ text) = true

abbrev pub is_comment : List ℕ → Bool
is_comment word = begins_with word (codes "##")

abbrev pub before_comment : List (List ℕ) → List (List ℕ)
before_comment [] = []
before_comment (word ∷ words) = if is_comment word then [] else word ∷ before_comment words

-- the words before the comment
abbrev pub words_of : List ℕ → List (List ℕ)
words_of line = before_comment (filter is_word (between_spaces false line))

-- how many bytes stand before the first space that parts words
abbrev pub counted : Bool → ℕ → ℕ
counted true n = 0
counted false n = suc n

abbrev pub word_length : Bool → List ℕ → ℕ
word_length quoted [] = 0
word_length quoted (b ∷ text) = counted (parts_words quoted b) (word_length (quoted_after quoted b) text)

-- the text without the spaces at its beginning
abbrev pub at_first : Bool → List ℕ → List ℕ → List ℕ
at_first true after text = after
at_first false after text = text

abbrev pub without_spaces : List ℕ → List ℕ
without_spaces [] = []
without_spaces (b ∷ text) = at_first (b == 0x20) (without_spaces text) (b ∷ text)
