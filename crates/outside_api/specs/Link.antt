-- What a link answers of a journal: the committed texts of its generations from 0 on, the newest last.
-- How a journal is fetched is this project's own choice.
use Rattle.std.specs.Prelude.{◌<◌, ◌≤◌, ◌≡◌, ℕ, ◌+◌, ◌-◌, List, [], ◌∷◌, ◌++◌, length, get_or, take, drop}
use Rattle.outside_api.specs.declared.link.Fetched.{Fetched}
use Rattle.outside_api.specs.declared.link.Fetched.TheVariants.{Bytes, End, Next}

-- the text of a generation, empty where it isn't there yet
abbrev pub text_of : List (List ℕ) → ℕ → List ℕ
text_of journal generation = get_or journal generation []

-- a journal as it was when so many bytes of one of its generations were committed, and none of a later one
pub record IsEarlier (earlier now : List (List ℕ)) : Type 0 where
  pub newest : ℕ
  pub bytes : ℕ
  pub there : newest ≤ length now - 1
  pub is : earlier ≡ take newest now ++ take bytes (text_of now newest) ∷ []

-- At least one byte of the generation's text from the place on. Where there is none: the end, of the newest generation
-- and of one not there yet, or the next generation, of a closed one.
abbrev pub Answers : List (List ℕ) → ℕ → ℕ → Fetched → List ℕ → Type 0
Answers journal generation at (Bytes n) buffer = (0 < n) × (n ≤ length (drop at (text_of journal generation))) × (take n buffer ≡ take n (drop at (text_of journal generation)))
Answers journal generation at End buffer = (length (text_of journal generation) ≤ at) × (length journal ≤ generation + 1)
Answers journal generation at Next buffer = (length (text_of journal generation) ≤ at) × (generation + 1 < length journal)

-- the bytes fit a buffer
abbrev pub Fits : Fetched → ℕ → Type 0
Fits (Bytes n) room = n ≤ room
Fits End room = Unit {0}
Fits Next room = Unit {0}
