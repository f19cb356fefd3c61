-- The lines of the protections table: `MODE user|group NAME HOST PATH` (Command-Line Reference, "p4 protect"). Which fault comes first is this
-- project's own choice.
use Rattle.std.specs.Prelude.{ℕ, ◌+◌, ◌-◌, Bool, true, false, ◌&&◌, ◌||◌, nat_le, nat_lt, List, [], ◌∷◌, length, drop, take, slice_get, slice_index, ◌==◌, codes, if◌then◌else◌, Option, Some, None, option_and_then, Result, Ok, Err}
use Rattle.depot_path.specs.Answers.{◌>>=◌, on_ok, on_err}
use Rattle.depot_path.specs.Bytes.{begins_with}
use Rattle.std.specs.List.{list_any}
use Rattle.depot_path.specs.Pattern.{pattern_of}
use Rattle.depot_path.specs.declared.fault.PathFault.{PathFault}
use Rattle.depot_path.specs.declared.piece.Piece.{Piece}
use Rattle.protect_table.specs.Mode.{mode_of, grantee_of}
use Rattle.protect_table.specs.Words.{words_of}
use Rattle.protect_table.specs.declared.mode.Mode.{Mode}
use Rattle.protect_table.specs.declared.mode.Grantee.{Grantee}
use Rattle.protect_table.specs.declared.line.ProtectLine.{ProtectLine}
use Rattle.protect_table.specs.declared.fault.ProtectFault.{ProtectFault}
use Rattle.protect_table.specs.declared.fault.LineFault.{LineFault}
use Rattle.protect_table.specs.declared.fault.LineFault.TheVariants.{BadMode, BadGrantee, BadPath, Memory}

-- the value, or the fault where there is none
abbrev pub required : {A : Type 0} → LineFault → Option A → Result A LineFault
required fault None = Err fault
required fault (Some value) = Ok value

-- what the word of this number is, from 0
abbrev pub read_word : {A : Type 0} → (List ℕ → Option A) → LineFault → List (List ℕ) → ℕ → Result A LineFault
read_word read fault words k = required fault (option_and_then read (slice_get words k))

abbrev pub has_quote : List ℕ → Bool
has_quote word = list_any (λ b. b == 0x22) word

-- a name or a host is any word without a quote
abbrev pub name_of : List ℕ → Option (List ℕ)
name_of word = if has_quote word then None else Some word

-- a word without the quotes in which it stands
abbrev pub is_quoted : List ℕ → Bool
is_quoted word = nat_le 2 (length word) && (slice_index word 0 == 0x22) && (slice_index word (length word - 1) == 0x22)

abbrev pub unquoted : List ℕ → List ℕ
unquoted word = if is_quoted word then drop 1 (take (length word - 1) word) else word

-- a word without the `-` of an exclusion
abbrev pub has_dash : List ℕ → Bool
has_dash word = begins_with word (codes "-")

abbrev pub undashed : List ℕ → List ℕ
undashed word = if has_dash word then drop 1 word else word

-- the `-` of an exclusion stands before the quotes or just inside them
abbrev pub is_excluding : List ℕ → Bool
is_excluding word = has_dash word || has_dash (unquoted word)

abbrev pub path_text : List ℕ → List ℕ
path_text word = if has_dash word then unquoted (undashed word) else undashed (unquoted word)

-- the pattern of a path's word
abbrev pub pattern_in : List ℕ → Result (List Piece) LineFault
pattern_in word = if has_quote (path_text word) then Err BadPath else on_err (λ (fault : PathFault). BadPath) (pattern_of false (path_text word))

-- the fifth word, and no sixth
abbrev pub last_word : List (List ℕ) → Result (List ℕ) LineFault
last_word words = if nat_lt 5 (length words) then Err BadPath else required BadPath (slice_get words 4)

abbrev pub make_line : Mode → Grantee → List ℕ → List ℕ → List ℕ → List Piece → ProtectLine
make_line mode grantee name host word path =
    record { mode = mode; grantee = grantee; name = name; host = host; excludes = is_excluding word; path = path }

-- the line that words spell, or the first of them that is missing or bad
abbrev pub line_of_words : List (List ℕ) → Result ProtectLine LineFault
line_of_words words =
    read_word mode_of BadMode words 0 >>= (λ mode.
    read_word grantee_of BadGrantee words 1 >>= (λ grantee.
    read_word name_of BadGrantee words 2 >>= (λ name.
    read_word name_of BadGrantee words 3 >>= (λ host.
    last_word words >>= (λ word.
    pattern_in word >>= (λ path.
    Ok (make_line mode grantee name host word path)))))))

abbrev pub line_of : List ℕ → Result ProtectLine LineFault
line_of text = line_of_words (words_of text)

abbrev pub in_line : ℕ → LineFault → ProtectFault
in_line n what = record { what = what; line = n }

abbrev pub no_memory : ProtectFault
no_memory = record { what = Memory; line = 0 }

-- the lines that texts spell, or the first bad one's fault, where the first text is line n
abbrev pub lines_from : ℕ → List (List ℕ) → Result (List ProtectLine) ProtectFault
lines_from n [] = Ok []
lines_from n (text ∷ texts) = on_err (in_line n) (line_of text) >>= (λ line. on_ok (λ lines. line ∷ lines) (lines_from (n + 1) texts))

abbrev pub table_of : List (List ℕ) → Result (List ProtectLine) ProtectFault
table_of texts = lines_from 1 texts

abbrev pub is_memory : LineFault → Bool
is_memory Memory = true
is_memory _ = false

-- the lines that texts spell, or none where they spell none
abbrev pub lines_or_none : Result (List ProtectLine) ProtectFault → List ProtectLine
lines_or_none (Ok lines) = lines
lines_or_none (Err fault) = []

abbrev pub read_lines : List (List ℕ) → List ProtectLine
read_lines texts = lines_or_none (table_of texts)
