-- What a line of a script is for, by its first word. The form of these lines is this project's own choice.
use Rattle.std.specs.Prelude.{ℕ, Bool, true, false, ◌&&◌, ◌==◌, nat_le, List, [], ◌∷◌, drop, codes, if◌then◌else◌, Option, Some, None, Result, Ok, Err}
use Rattle.depot_model.specs.depot_path.Bytes.{same}
use Rattle.depot_model.specs.depot_path.Digits.{number_of, is_digits}
use Rattle.depot_model.specs.depot_path.Path.{path_of}
use Rattle.depot_model.specs.depot_path.declared.fault.PathFault.{PathFault}
use Rattle.wire_text.specs.Parts.{upto, past, is_in, Halves, last_cut}
use Rattle.wire_text.specs.declared.line_kind.LineKind.{LineKind}
use Rattle.wire_text.specs.declared.line_kind.LineKind.TheVariants.{Skipped, Block, Clear, Input, CommandLine, Bad, LongBlock}
use Rattle.wire_text.specs.declared.line_kind.LengthFault.{LengthFault}
use Rattle.wire_text.specs.declared.line_kind.LengthFault.TheVariants.{NoLength, TooLong}

-- an empty line, and one that begins with `#`
abbrev pub is_skipped : List ℕ → Bool
is_skipped [] = true
is_skipped (b ∷ line) = b == 0x23

-- the length of a block, of at most 8,388,608 bytes
abbrev pub length_of : List ℕ → Result ℕ LengthFault
length_of word =
    if is_digits word then (if nat_le (number_of word) 8388608 then Ok (number_of word) else Err TooLong) else Err NoLength

-- the first component of a path is the client: what stands between its first two slashes and the third
abbrev pub is_within : List ℕ → List ℕ → Bool
is_within client path = is_in 0x2F (drop 2 path) && same (upto 0x2F (drop 2 path)) client

abbrev pub path_within : List ℕ → Result (List ℕ) PathFault → Option (List ℕ)
path_within client (Ok path) = if is_within client path then Some path else None
path_within client (Err fault) = None

abbrev pub path_in : List ℕ → List ℕ → Option (List ℕ)
path_in client text = path_within client (path_of text)

abbrev pub kind_of_fault : LengthFault → LineKind
kind_of_fault NoLength = Bad
kind_of_fault TooLong = LongBlock

abbrev pub block_kind : Option (List ℕ) → Result ℕ LengthFault → LineKind
block_kind (Some path) (Ok n) = Block path n
block_kind (Some path) (Err fault) = kind_of_fault fault
block_kind None n = Bad

-- `file PATH LENGTH`: the last space parts the two
abbrev pub file_kind : List ℕ → Option Halves → LineKind
file_kind client (Some halves) = block_kind (path_in client halves.before) (length_of halves.behind)
file_kind client None = Bad

-- `clear PATH`
abbrev pub clear_kind : Option (List ℕ) → LineKind
clear_kind (Some path) = Clear path
clear_kind None = Bad

-- `input LENGTH`, where no other input waits for its command
abbrev pub input_kind : Bool → Result ℕ LengthFault → LineKind
input_kind true n = Bad
input_kind false (Ok n) = Input n
input_kind false (Err fault) = kind_of_fault fault

abbrev pub kind_by_word : List ℕ → Bool → List ℕ → List ℕ → LineKind
kind_by_word client waits word text =
    if same word (codes "file") then file_kind client (last_cut 0x20 text) else
    (if same word (codes "clear") then clear_kind (path_in client text) else
    (if same word (codes "input") then input_kind waits (length_of text) else CommandLine))

-- the first word goes up to the first space
abbrev pub kind_of : List ℕ → Bool → List ℕ → LineKind
kind_of client waits line = if is_skipped line then Skipped else kind_by_word client waits (upto 0x20 line) (past 0x20 line)
