-- The words of a command line, whose form is this project's own choice: words with spaces between. A word is a run of bytes other than space and
-- `"`, or stands between two `"` and holds any bytes but these.
use Rattle.std.specs.Prelude.{ℕ, zero, suc, ◌+◌, Bool, true, not, ◌&&◌, ◌==◌, nat_le, List, [], ◌∷◌, length, if◌then◌else◌, option_map, Option, Some, None}
use Rattle.std.specs.List.{list_any}
use Rattle.depot_model.specs.depot_path.Bytes.{is_control}
use Rattle.depot_model.specs.depot_path.Utf8.{is_utf8}
use Rattle.depot_model.specs.declared.line.Line.{Line}
use Rattle.depot_model.specs.declared.line.Line.TheVariants.{Words, Bad}
use Rattle.wire_text.specs.Parts.{upto, past, is_in}

-- the plain word with which a text begins: up to the next space, without a quote
abbrev pub plain_word : List ℕ → Option (List ℕ)
plain_word text = if is_in 0x22 (upto 0x20 text) then None else Some (upto 0x20 text)

-- behind a word stands a space, or nothing
abbrev pub is_apart : List ℕ → Bool
is_apart [] = true
is_apart (b ∷ text) = b == 0x20

-- the word that stands between a quote, behind which the text begins, and the next one
abbrev pub quoted_word : List ℕ → Option (List ℕ)
quoted_word text = if is_in 0x22 text && is_apart (past 0x22 text) then Some (upto 0x22 text) else None

abbrev pub with_word : Option (List ℕ) → Option (List (List ℕ)) → Option (List (List ℕ))
with_word None words = None
with_word (Some word) words = option_map (λ (ws : List (List ℕ)). word ∷ ws) words

abbrev pub with_maybe : Option (List ℕ) → Option (List (List ℕ)) → Option (List (List ℕ))
with_maybe None words = words
with_maybe (Some word) words = with_word (Some word) words

-- the words of a text; the first `passed` bytes are the end of a word
abbrev pub words_from : ℕ → List ℕ → Option (List (List ℕ))
words_from passed [] = Some []
words_from (suc passed) (b ∷ text) = words_from passed text
words_from zero (b ∷ text) =
    if b == 0x20 then words_from 0 text else
    (if b == 0x22
    then with_word (quoted_word text) (words_from (length (upto 0x22 text) + 1) text)
    else with_word (plain_word (b ∷ text)) (words_from (length (upto 0x20 text)) text))

-- UTF-8 without control bytes
abbrev pub is_clean : List ℕ → Bool
is_clean line = is_utf8 line && not (list_any is_control line)

-- at most 64 words
abbrev pub line_of_words : Option (List (List ℕ)) → Line
line_of_words None = Bad
line_of_words (Some words) = if nat_le (length words) 64 then Words words else Bad

-- what a command line is read as
abbrev pub line_of : List ℕ → Line
line_of line = if is_clean line then line_of_words (words_from 0 line) else Bad
