-- What a word is read as where it is the value of an option, or an argument that is no file: a number, a name, a file type, or itself
-- (Command-Line Reference, "Commands", each command's syntax; the limits and the two faults are this project's own choice).
use Rattle.std.specs.Prelude.{ℕ, Bool, true, ◌||◌, List, codes, if◌then◌else◌, Result, Ok, Err}
use Rattle.depot_path.specs.Bytes.{same}
use Rattle.depot_path.specs.Digits.{number_of, is_number}
use Rattle.depot_path.specs.Name.{is_name}
use Rattle.depot_model.specs.Types.{is_type, printed_type}
use Rattle.depot_model.specs.declared.request.WordFault.{WordFault}
use Rattle.depot_model.specs.declared.request.WordFault.TheVariants.{BadUsage, BadNumber}
use Rattle.command_words.specs.declared.table.ValueKind.{ValueKind}
use Rattle.command_words.specs.declared.table.ValueKind.TheVariants as kinds

-- the greatest number of a change or a revision, and the greatest value of a counter
abbrev pub most_number : ℕ
most_number = 2147483647

abbrev pub most_value : ℕ
most_value = 18446744073709551615

-- what a word of the command is read as, or its fault
abbrev pub number_of_word : ℕ → List ℕ → List ℕ → Result ℕ WordFault
number_of_word most command word = if is_number most word then Ok (number_of word) else Err (BadNumber command)

abbrev pub number : List ℕ → List ℕ → Result ℕ WordFault
number command word = number_of_word most_number command word

abbrev pub value : List ℕ → List ℕ → Result ℕ WordFault
value command word = number_of_word most_value command word

abbrev pub is_default : List ℕ → Bool
is_default word = same word (codes "default")

-- a number, or `default`, which is 0
abbrev pub change : List ℕ → List ℕ → Result ℕ WordFault
change command word = if is_default word then Ok 0 else number command word

abbrev pub name : List ℕ → List ℕ → Result (List ℕ) WordFault
name command word = if is_name word then Ok word else Err (BadUsage command)

abbrev pub file_type : List ℕ → List ℕ → Result (List ℕ) WordFault
file_type command word = if is_type word then Ok (printed_type word) else Err (BadUsage command)

abbrev pub text : List ℕ → List ℕ → Result (List ℕ) WordFault
text command word = Ok word

-- the word is a value of that kind
abbrev pub is_value : ValueKind → List ℕ → Bool
is_value kinds.Flag word = true
is_value kinds.Number word = is_number most_number word
is_value kinds.Change word = is_default word || is_number most_number word
is_value kinds.Name word = is_name word
is_value kinds.FileType word = is_type word
is_value kinds.Word word = true

-- the fault of a word that isn't
abbrev pub no_value : ValueKind → List ℕ → WordFault
no_value kinds.Number command = BadNumber command
no_value kinds.Change command = BadNumber command
no_value _ command = BadUsage command

-- the word, where it is a value of that kind
abbrev pub checked : List ℕ → ValueKind → List ℕ → Result (List ℕ) WordFault
checked command kind word = if is_value kind word then Ok word else Err (no_value kind command)
