-- The lines of a view: an optional sign, a depot side, spaces and a client side; a side may stand in double quotes, and the sign before the
-- first quote or just inside it (Command-Line Reference, "Views"). That spaces alone part the sides, the most lines, and which fault comes
-- first, are this project's own choice.
use Rattle.std.specs.Prelude.{ℕ, ◌+◌, Bool, true, false, not, ◌||◌, nat_lt, List, [], ◌∷◌, ◌++◌, length, take, drop, position, ◌==◌, codes, if◌then◌else◌, Option, Some, None, Result, Ok, Err}
use Rattle.std.specs.List.{list_all}
use Rattle.depot_path.specs.Answers.{◌>>=◌, on_ok, on_err}
use Rattle.depot_path.specs.Bytes.{begins_with}
use Rattle.depot_path.specs.Pattern.{pattern_of, literal}
use Rattle.depot_path.specs.declared.piece.Piece.{Piece}
use Rattle.depot_path.specs.declared.fault.PathFault.{PathFault}
use Rattle.view_map.specs.Specifiers.{same_specifiers}
use Rattle.view_map.specs.declared.fault.ViewCause.{ViewCause}
use Rattle.view_map.specs.declared.fault.ViewCause.TheVariants.{BadLine, UnequalSpecifiers, TooManyLines, WrongRoot, Memory}
use Rattle.view_map.specs.declared.fault.ViewFault.{ViewFault}
use Rattle.view_map.specs.declared.line.Sign.{Sign}
use Rattle.view_map.specs.declared.line.Sign.TheVariants.{Plain, Overlay, Exclusion}
use Rattle.view_map.specs.declared.line.ViewLine.{ViewLine}

abbrev pub is_space : ℕ → Bool
is_space b = b == 0x20

abbrev pub is_quote : ℕ → Bool
is_quote b = b == 0x22

abbrev pub begins_quoted : List ℕ → Bool
begins_quoted text = begins_with text (codes "\"")

-- what stands before the closing quote, and what follows it
abbrev pub up_to_quote : List ℕ → Option ℕ → Option (List ℕ × List ℕ)
up_to_quote text None = None
up_to_quote text (Some at) = Some (take at text, drop (at + 1) text)

abbrev pub quoted_side : List ℕ → Option (List ℕ × List ℕ)
quoted_side text = up_to_quote text (position is_quote text)

-- what stands before the first space, and the rest
abbrev pub up_to_space : List ℕ → Option ℕ → List ℕ × List ℕ
up_to_space text None = (text, [])
up_to_space text (Some at) = (take at text, drop at text)

-- the side with which a text begins, and what follows it
abbrev pub side_at : List ℕ → Option (List ℕ × List ℕ)
side_at text = if begins_quoted text then quoted_side (drop 1 text) else Some (up_to_space text (position is_space text))

-- the text without the quote with which it begins
abbrev pub unopened : List ℕ → List ℕ
unopened text = if begins_quoted text then drop 1 text else text

abbrev pub sign_at : List ℕ → Sign
sign_at text = if begins_with text (codes "-") then Exclusion else (if begins_with text (codes "+") then Overlay else Plain)

-- the sign of a line, before its first side or just inside its quote
abbrev pub sign_of : List ℕ → Sign
sign_of text = sign_at (unopened text)

abbrev pub unsigned : List ℕ → List ℕ
unsigned text = if begins_with text (codes "-") || begins_with text (codes "+") then drop 1 text else text

-- the side with which a line begins, and what follows it
abbrev pub first_side : List ℕ → Option (List ℕ × List ℕ)
first_side text = if begins_quoted text then quoted_side (unsigned (drop 1 text)) else side_at (unsigned text)

-- the text without the spaces with which it begins
abbrev pub without_spaces : List ℕ → List ℕ
without_spaces [] = []
without_spaces (b ∷ text) = if is_space b then without_spaces text else b ∷ text

-- the two sides of a line, where there are spaces between them and nothing else but spaces after
abbrev pub with_second : List ℕ → Option (List ℕ × List ℕ) → Option (List ℕ × List ℕ)
with_second first None = None
with_second first (Some found) = if list_all is_space found.1 then Some (first, found.0) else None

abbrev pub with_first : Option (List ℕ × List ℕ) → Option (List ℕ × List ℕ)
with_first None = None
with_first (Some found) = if begins_with found.1 (codes " ") then with_second found.0 (side_at (without_spaces found.1)) else None

abbrev pub sides_of : List ℕ → Option (List ℕ × List ℕ)
sides_of text = with_first (first_side text)

-- the pattern of a side, in which `%%1` to `%%9` are read
abbrev pub side_of : List ℕ → Result (List Piece) ViewCause
side_of text = on_err (λ (fault : PathFault). BadLine) (pattern_of true text)

-- what each client side of a client's view begins with
abbrev pub root_of : List ℕ → List ℕ
root_of client = codes "//" ++ client ++ codes "/"

abbrev pub line_with : List ℕ → Sign → List Piece → List Piece → Result ViewLine ViewCause
line_with root sign depot client =
    if not (same_specifiers depot client) then Err UnequalSpecifiers else
    (if not (begins_with (literal client) root) then Err WrongRoot else
    Ok (record { sign = sign; depot = depot; client = client }))

abbrev pub line_of_sides : List ℕ → Sign → Option (List ℕ × List ℕ) → Result ViewLine ViewCause
line_of_sides root sign None = Err BadLine
line_of_sides root sign (Some sides) = side_of sides.0 >>= (λ depot. side_of sides.1 >>= (λ client. line_with root sign depot client))

-- the line that a text spells, whose client side is to begin with the root, or what is wrong with it
abbrev pub line_of : List ℕ → List ℕ → Result ViewLine ViewCause
line_of root text = line_of_sides root (sign_of text) (sides_of text)

abbrev pub in_line : ℕ → ViewCause → ViewFault
in_line n what = record { what = what; line = n }

abbrev pub no_memory : ViewFault
no_memory = in_line 0 Memory

abbrev pub is_memory : ViewCause → Bool
is_memory Memory = true
is_memory _ = false

-- the lines that texts spell, or the first bad one's fault, where the first text is line n
abbrev pub lines_from : ℕ → List ℕ → List (List ℕ) → Result (List ViewLine) ViewFault
lines_from n root [] = Ok []
lines_from n root (text ∷ texts) =
    on_err (in_line n) (line_of root text) >>= (λ line. on_ok (λ lines. line ∷ lines) (lines_from (n + 1) root texts))

-- the view that texts spell, or the first fault; more than 200 lines come first of all
abbrev pub view_of : List ℕ → List (List ℕ) → Result (List ViewLine) ViewFault
view_of client texts = if nat_lt 200 (length texts) then Err (in_line 201 TooManyLines) else lines_from 1 (root_of client) texts
