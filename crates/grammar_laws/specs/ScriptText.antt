-- How a script is printed: the line of its head, and then each thing that it says. Where a script may be written in several ways this is one of
-- them: one space between the words of a head, quotes around each word of a command, paths with escapes, lengths without leading zeros, and
-- neither empty lines nor comments. The form of scripts is this project's own choice.
use Rattle.std.specs.Prelude.{◌≡◌, ◌≤◌, ℕ, Bool, true, not, ◌&&◌, ◌==◌, nat_le, List, [], ◌∷◌, ◌++◌, length, flat_map, codes, decimal, is_ok, Option, Some, None}
use Rattle.std.specs.List.{list_all, list_any}
use Rattle.std.specs.Option.{option_map_or}
use Rattle.depot_rows.specs.depot_path.Bytes.{is_among, is_control}
use Rattle.depot_rows.specs.depot_path.Name.{is_name}
use Rattle.depot_rows.specs.depot_path.Path.{is_path, printed}
use Rattle.depot_rows.specs.depot_path.Utf8.{is_utf8}
use Rattle.depot_rows.specs.depot_model.Filter.{filter_of}
use Rattle.depot_rows.specs.depot_model.declared.line.Line.{Line}
use Rattle.depot_rows.specs.depot_model.declared.line.Line.TheVariants.{Words, Bad}
use Rattle.depot_rows.specs.depot_model.declared.request.Caller.{Caller}
use Rattle.wire_text.specs.Head.{client_of}
use Rattle.wire_text.specs.LineKind.{is_within}
use Rattle.wire_text.specs.Script.{is_short, number_after, max_script, script_of}
use Rattle.wire_text.specs.declared.entry.Entry.{Entry}
use Rattle.wire_text.specs.declared.entry.Entry.TheVariants.{Put, Clear, Command}
use Rattle.wire_text.specs.declared.head.Head.{Head}
use Rattle.wire_text.specs.declared.head.Head.TheVariants.{Session, Replica}

-- ---- the text of a script

-- a line, with its line feed
abbrev pub line_text : List ℕ → List ℕ
line_text line = line ++ 0x0A ∷ []

-- a block of bytes, behind a line that ends with their number
abbrev pub block_text : List ℕ → List ℕ → List ℕ
block_text start bytes = line_text (start ++ decimal (length bytes)) ++ line_text bytes

-- words with one space between
abbrev pub spaced : List ℕ → List (List ℕ) → List ℕ
spaced word [] = word
spaced word (next ∷ words) = word ++ 0x20 ∷ spaced next words

-- `session USER CLIENT HOST`, or `replica CLIENT USER HOST PATTERN...`
abbrev pub head_line : Head → List ℕ
head_line (Session caller) = spaced (codes "session") (caller.user ∷ caller.client ∷ caller.host ∷ [])
head_line (Replica caller patterns) = spaced (codes "replica") (caller.client ∷ caller.user ∷ caller.host ∷ patterns)

-- each word in quotes, with a space behind it
abbrev pub quoted : List (List ℕ) → List ℕ
quoted [] = []
quoted (word ∷ words) = 0x22 ∷ (word ++ 0x22 ∷ 0x20 ∷ quoted words)

-- the words of a command, behind a space; a line of a command that is no list of words is a quote that nothing closes
abbrev pub command_line : Line → List ℕ
command_line (Words words) = 0x20 ∷ quoted words
command_line Bad = 0x22 ∷ []

-- `input LENGTH`, and the bytes
abbrev pub input_text : Option (List ℕ) → List ℕ
input_text None = []
input_text (Some bytes) = block_text (codes "input ") bytes

-- `file PATH LENGTH` and the bytes, `clear PATH`, or a command behind its input
abbrev pub entry_text : Entry → List ℕ
entry_text (Put content) = block_text (codes "file " ++ printed content.path ++ codes " ") content.bytes
entry_text (Clear path) = line_text (codes "clear " ++ printed path)
entry_text (Command item) = input_text item.input ++ line_text (command_line item.line)

abbrev pub script_text : Head → List Entry → List ℕ
script_text head entries = line_text (head_line head) ++ flat_map entry_text entries

-- ---- which scripts can be printed

abbrev pub is_caller : Caller → Bool
is_caller caller = is_name caller.user && is_name caller.client && is_name caller.host

-- a text without spaces and line feeds
abbrev pub is_one_word : List ℕ → Bool
is_one_word text = not (is_among text 0x20) && not (is_among text 0x0A)

-- three names, and for a replica 1 to 60 patterns of a filter
abbrev pub is_head : Head → Bool
is_head (Session caller) = is_caller caller
is_head (Replica caller patterns) =
    is_caller caller && list_all is_one_word patterns && (nat_le 1 (length patterns) && nat_le (length patterns) 60 && is_ok (filter_of patterns))

-- UTF-8 without control bytes and quotes
abbrev pub is_word : List ℕ → Bool
is_word word = is_utf8 word && not (list_any is_control word) && not (is_among word 0x22)

-- at most 64 words, or a line that is no list of words
abbrev pub is_line : Line → Bool
is_line (Words words) = list_all is_word words && nat_le (length words) 64
is_line Bad = true

-- no longer than a block may be
abbrev pub is_block : List ℕ → Bool
is_block bytes = nat_le (length bytes) 8388608

abbrev pub is_client_path : List ℕ → List ℕ → Bool
is_client_path client path = is_path path && is_within client path

-- a path of the head's client with a short content, such a path alone, or a command with its number, a short input and a line
abbrev pub is_entry : List ℕ → ℕ → Entry → Bool
is_entry client number (Put content) = is_client_path client content.path && is_short content
is_entry client number (Clear path) = is_client_path client path
is_entry client number (Command item) = (item.number == number) && option_map_or is_block item.input true && is_line item.line

-- each of them, with commands numbered from this number on
abbrev pub are_entries : List ℕ → ℕ → List Entry → Bool
are_entries client number [] = true
are_entries client number (entry ∷ entries) = is_entry client number entry && are_entries client (number_after number (Some entry)) entries

-- a head, whose line is no longer than a line may be, and a list of things that a script may say
pub record IsScript (head : Head) (entries : List Entry) : Type 0 where
  pub begins : is_head head ≡ true
  pub line : length (head_line head) ≤ 8192
  pub says : are_entries (client_of head) 1 entries ≡ true

-- the line of a command is no longer than a line may be
abbrev pub has_short_line : Entry → Bool
has_short_line (Command item) = nat_le (length (command_line item.line)) 8192
has_short_line _ = true

-- the text is no longer than a script may be, nor are its commands' lines
pub record FitsScript (head : Head) (entries : List Entry) : Type 0 where
  pub lines : list_all has_short_line entries ≡ true
  pub size : length (script_text head entries) ≤ max_script

-- the text says this head and these entries, and is whole
abbrev pub IsWhole : List ℕ → Head → List Entry → Type 0
IsWhole text head entries = script_of text ≡ record { head = Some head; entries = entries; fault = None }

-- what is printed is read as a whole script of that head and these entries
abbrev pub PrintedScriptsReadBack : Type 0
PrintedScriptsReadBack = (head : Head) (entries : List Entry) → IsScript head entries → FitsScript head entries → IsWhole (script_text head entries) head entries

-- a whole script begins with such a head and says such things
abbrev pub WholeScriptsArePrintable : Type 0
WholeScriptsArePrintable = (text : List ℕ) (head : Head) (entries : List Entry) → IsWhole text head entries → IsScript head entries

-- what is printed of a whole script's head and of what it says is read as that script is, where it fits a script
abbrev pub WholeScriptsPrintAlike : Type 0
WholeScriptsPrintAlike =
    (text : List ℕ) (head : Head) (entries : List Entry) → IsWhole text head entries → FitsScript head entries → script_of (script_text head entries) ≡ script_of text
