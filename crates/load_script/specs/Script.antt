-- The script of the mode `load`: a session that saves a client which shows the whole depot, and then brings in one of ten files at each step, as a seed
-- draws them: it adds a file the first time, and edits it from then on. This project's own choice.
use Rattle.std.specs.Prelude.{ℕ, zero, suc, ◌+◌, ◌/◌, ◌%◌, ◌==◌, List, [], ◌∷◌, ◌++◌, length, codes, Bool, if◌then◌else◌}
use Rattle.std.specs.List.{list_any}
use Rattle.seeded_numbers.specs.Numbers.{next_number, value_of}

-- the head, and the client's form as forms are printed, with the command that saves it
abbrev pub beginning : List ℕ
beginning = codes "session load load load\ninput 45\nClient:\tload\n\nView:\n\t//depot/... //load/...\n\n\np4 client -i\n"

abbrev pub digit_of : ℕ → ℕ
digit_of n = 48 + n % 10

-- the content at a step: its number in eight digits
abbrev pub content_of : ℕ → List ℕ
content_of n =
    digit_of (n / 10000000) ∷ digit_of (n / 1000000) ∷ digit_of (n / 100000) ∷ digit_of (n / 10000) ∷ digit_of (n / 1000) ∷ digit_of (n / 100)
    ∷ digit_of (n / 10) ∷ digit_of n ∷ []

-- the command that opens a file
abbrev pub opening_word : Bool → List ℕ
opening_word known = if known then codes "edit" else codes "add"

-- a step with a file, which is known or not, and its number: the file's content, and then two commands
abbrev pub block_line_of : ℕ → List ℕ
block_line_of file = codes "file //load/" ++ digit_of file ∷ [] ++ codes " 8\n"

abbrev pub block_of : ℕ → ℕ → List ℕ
block_of file n = block_line_of file ++ content_of n ++ codes "\n"

abbrev pub commands_of : ℕ → Bool → List ℕ
commands_of file known = codes "p4 " ++ opening_word known ++ codes " //load/" ++ digit_of file ∷ [] ++ codes "\np4 submit -d load\n"

abbrev pub step_of : ℕ → Bool → ℕ → List ℕ
step_of file known n = block_of file n ++ commands_of file known

-- the files that the numbers after a number draw
abbrev pub files_after : ℕ → ℕ → List ℕ
files_after x zero = []
files_after x (suc count) = value_of (next_number x) % 10 ∷ files_after (next_number x) count

abbrev pub is_among : List ℕ → ℕ → Bool
is_among files file = list_any (λ other. other == file) files

-- the steps with files, behind those with others
abbrev pub steps_behind : List ℕ → List ℕ → List ℕ
steps_behind before [] = []
steps_behind before (file ∷ files) = step_of file (is_among before file) (length before + 1) ++ steps_behind (before ++ file ∷ []) files

-- the script of a seed and a number of steps
abbrev pub script_of : ℕ → ℕ → List ℕ
script_of seed count = beginning ++ steps_behind [] (files_after seed count)
