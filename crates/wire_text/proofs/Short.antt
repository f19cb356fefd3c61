-- The contents that a script says are short.
use Rattle.std.proofs.Common.{◌≡◌, ◌≤◌, ℕ, zero, suc, ◌-◌, Bool, true, false, List, [], ◌∷◌, ◌++◌, length, min, take, drop, Option, Some, None, Result, Ok, Err, refl, sym, ap, ◌∙◌, arith}
use Rattle.std.specs.Prelude.{◌==◌, ◌&&◌, ◌+◌, codes, nat_le, nat_lt, is_some, IfOk, if◌then◌else◌}
use Rattle.std.specs.List.{list_all}
use Rattle.std.specs.Option.{option_to_list}
use Rattle.std.proofs.lemmas.Bool.Decides.{nat_tests}
use Rattle.std.proofs.lemmas.List.{length-take}
use Rattle.std.proofs.lemmas.List.Folds.{list_all-append}
use Rattle.depot_model.specs.depot_path.Bytes.{same}
use Rattle.depot_model.specs.depot_path.Digits.{number_of, is_digits}
use Rattle.wire_text.specs.Parts.{upto, past, last_cut, Halves}
use Rattle.wire_text.specs.LineKind.{length_of, block_kind, file_kind, clear_kind, input_kind, kind_by_word, kind_of, is_skipped, path_in}
use Rattle.wire_text.specs.Reading.{GoesOn}
use Rattle.wire_text.specs.Script.{Point, Part, Entries, has_short_content, block_of, block_before, with_block, with_front, fault_at, stop_place, part_of, first_part, part_by_line, whole_line, behind, said, entries_from, rest_of, limited, max_script, start, begun, head_by_line, script_of}
use Rattle.wire_text.specs.declared.entry.Entry.{Entry}
use Rattle.wire_text.specs.declared.entry.Entry.TheVariants.{Put}
use Rattle.wire_text.specs.declared.head.Head.{Head}
use Rattle.wire_text.specs.declared.fault.ScriptFaultKind.{ScriptFaultKind}
use Rattle.wire_text.specs.declared.fault.ScriptFaultKind.TheVariants.{BadData}
use Rattle.wire_text.specs.declared.line_kind.LengthFault.{LengthFault}
use Rattle.wire_text.specs.declared.line_kind.LengthFault.TheVariants.{NoLength, TooLong}
use Rattle.wire_text.specs.declared.line_kind.LineKind.{LineKind}
use Rattle.wire_text.specs.declared.line_kind.LineKind.TheVariants.{Skipped, Block, Clear, Input, CommandLine, Bad, LongBlock}

-- ---- lengths

abbrev IsShort : ℕ → Type 0
IsShort n = n ≤ 8388608

length_short : (word : List ℕ) → IfOk (length_of word) IsShort
length_short word = go (is_digits word) (nat_le (number_of word) 8388608) refl
  where
    go : (a b : Bool) → nat_le (number_of word) 8388608 ≡ b → IfOk (if a then (if b then Ok (number_of word) else Err TooLong) else Err NoLength) (λ n. n ≤ 8388608)
    go true true e = grind (arith, nat_tests)
    go true false e = tt
    go false b e = tt

-- a block's length, where a line is of one
abbrev IsShortBlock : LineKind → Type 0
IsShortBlock (Block path n) = IsShort n
IsShortBlock _ = Unit {0}

block_short : (path : Option (List ℕ)) (n : Result ℕ LengthFault) → IfOk n IsShort → IsShortBlock (block_kind path n)
block_short (Some path) (Ok n) h = h
block_short (Some path) (Err NoLength) h = tt
block_short (Some path) (Err TooLong) h = tt
block_short None n h = tt

file_short : (client : List ℕ) (halves : Option Halves) → IsShortBlock (file_kind client halves)
file_short client (Some halves) = block_short (path_in client halves.before) (length_of halves.behind) (length_short halves.behind)
file_short client None = tt

clear_short : (path : Option (List ℕ)) → IsShortBlock (clear_kind path)
clear_short (Some path) = tt
clear_short None = tt

input_short : (waits : Bool) (n : Result ℕ LengthFault) → IsShortBlock (input_kind waits n)
input_short true n = tt
input_short false (Ok n) = tt
input_short false (Err NoLength) = tt
input_short false (Err TooLong) = tt

kind_short : (client : List ℕ) (waits : Bool) (line : List ℕ) → IsShortBlock (kind_of client waits line)
kind_short client waits line = skipped (is_skipped line)
  where
    word : List ℕ
    word = upto 0x20 line

    text : List ℕ
    text = past 0x20 line

    clears : (b : Bool) → IsShortBlock (if b then clear_kind (path_in client text) else (if same word (codes "input") then input_kind waits (length_of text) else CommandLine))
    clears true = clear_short (path_in client text)
    clears false = inputs (same word (codes "input"))
      where
        inputs : (b : Bool) → IsShortBlock (if b then input_kind waits (length_of text) else CommandLine)
        inputs true = input_short waits (length_of text)
        inputs false = tt

    files : (b : Bool) → IsShortBlock (if b then file_kind client (last_cut 0x20 text) else (if same word (codes "clear") then clear_kind (path_in client text) else (if same word (codes "input") then input_kind waits (length_of text) else CommandLine)))
    files true = file_short client (last_cut 0x20 text)
    files false = clears (same word (codes "clear"))

    skipped : (b : Bool) → IsShortBlock (if b then Skipped else kind_by_word client waits word text)
    skipped true = tt
    skipped false = files (same word (codes "file"))

-- ---- parts

taken_short : (n : ℕ) (text block : List ℕ) → IsShort n → take n text ≡ block → nat_le (length block) 8388608 ≡ true
taken_short n text block short e =
    let long : length block ≡ min n (length text) = ap length (sym e) ∙ length-take n text in
    grind (arith, nat_tests)

read_short : (n : ℕ) (text : List ℕ) → IsShort n → IfOk (block_of n text) (λ block. nat_le (length block) 8388608 ≡ true)
read_short n text short = go (drop n text)
  where
    go : (rest : List ℕ) → IfOk (block_before (take n text) rest) (λ block. nat_le (length block) 8388608 ≡ true)
    go [] = tt
    go (b ∷ rest) = ended (b == 0x0A)
      where
        ended : (r : Bool) → IfOk (if r then Ok (take n text) else Err BadData) (λ block. nat_le (length block) 8388608 ≡ true)
        ended true = taken_short n text (take n text) short refl
        ended false = tt

abbrev IsShortPart : Part → Type 0
IsShortPart part = list_all has_short_content (option_to_list part.entry) ≡ true

part_short : (point : Point) (line : List ℕ) (kind : LineKind) (text : List ℕ) → IsShortBlock kind → IfOk (part_of point line kind text) IsShortPart
part_short point line Skipped text h = refl
part_short point line (Block path n) text h = go (block_of n text) (read_short n text h)
  where
    go : (r : Result (List ℕ) ScriptFaultKind) → IfOk r (λ block. nat_le (length block) 8388608 ≡ true)
        → IfOk (with_block (length line) n (λ block. Some (Put (record { path = path; bytes = block }))) (λ block. point.input) r) IsShortPart
    go (Ok block) k = λ i. k i && true
    go (Err what) k = tt
part_short point line (Clear path) text h = refl
part_short point line (Input n) text h = go (block_of n text)
  where
    go : (r : Result (List ℕ) ScriptFaultKind) → IfOk (with_block (length line) n (λ block. None) (λ block. Some block) r) IsShortPart
    go (Ok block) = refl
    go (Err what) = tt
part_short point line CommandLine text h = refl
part_short point line Bad text h = tt
part_short point line LongBlock text h = tt

first_short : (point : Point) (text : List ℕ) → IfOk (first_part point text) IsShortPart
first_short point text = go (whole_line text)
  where
    go : (r : Result (List ℕ) ScriptFaultKind) → IfOk (part_by_line point r (past 0x0A text)) IsShortPart
    go (Ok line) = part_short point line (kind_of point.client (is_some point.input) line) (past 0x0A text) (kind_short point.client (is_some point.input) line)
    go (Err what) = tt

-- ---- what is said from a point on

both_short : (xs ys : List Entry) → list_all has_short_content xs ≡ true → list_all has_short_content ys ≡ true → list_all has_short_content (xs ++ ys) ≡ true
both_short xs ys e f = list_all-append has_short_content xs ys ∙ (λ i. e i && f i)

entries_short : (point : Point) (passed : ℕ) (text : List ℕ) → list_all has_short_content (entries_from point passed text).entries ≡ true
entries_short point passed [] = refl
entries_short point (suc passed) (b ∷ text) = entries_short point passed text
entries_short point zero (b ∷ text) = go (first_part point (b ∷ text)) (first_short point (b ∷ text)) (λ part. entries_short (behind point part) (part.size - 1) text)
  where
    go : (r : Result Part ScriptFaultKind) → IfOk r IsShortPart
        → ((part : Part) → list_all has_short_content (entries_from (behind point part) (part.size - 1) text).entries ≡ true)
        → list_all has_short_content (said r
        (λ what. record { entries = []; fault = Some (fault_at what (stop_place what point.place (length text + 1))) })
        (λ part. with_front (option_to_list part.entry) (entries_from (behind point part) (part.size - 1) text))).entries ≡ true
    go (Ok part) here later = both_short (option_to_list part.entry) (entries_from (behind point part) (part.size - 1) text).entries here (later part)
    go (Err what) here later = refl

rest_short : (point : Point) (text : List ℕ) → list_all has_short_content (rest_of point text).entries ≡ true
rest_short point text = go (nat_lt max_script (point.place + length text)) (entries_from point 0 (take (max_script - point.place) text)) (entries_short point 0 (take (max_script - point.place) text))
  where
    go : (b : Bool) (es : Entries) → list_all has_short_content es.entries ≡ true → list_all has_short_content (limited b es).entries ≡ true
    go true es h = h
    go false es h = h

front_short : (xs ys : List Entry) → list_all has_short_content (xs ++ ys) ≡ true → list_all has_short_content xs ≡ true
front_short [] ys e = refl
front_short (x ∷ xs) ys e = go (has_short_content x) e (front_short xs ys)
  where
    go : (b : Bool) → (b && list_all has_short_content (xs ++ ys)) ≡ true → (list_all has_short_content (xs ++ ys) ≡ true → list_all has_short_content xs ≡ true)
        → (b && list_all has_short_content xs) ≡ true
    go true h later = later h
    go false h later = absurd cc

-- the entries of a text that goes on
pub goes_short : {l0 l1 : Option (List ℕ)} {begun held mid : List ℕ} {p q : Point} {entries : List Entry} → GoesOn begun l0 l1 held mid p q entries
    → list_all has_short_content entries ≡ true
goes_short {begun = begun} {held = held} {mid = mid} {p = p} {q = q} {entries = entries} g =
    let says : list_all has_short_content (rest_of p (begun ++ (held ++ (g.came ++ [])))).entries ≡ list_all has_short_content (entries ++ (rest_of q (mid ++ [])).entries) =
    ap (λ (s : Entries). list_all has_short_content s.entries) (g.says []) in
    front_short entries (rest_of q (mid ++ [])).entries (sym says ∙ rest_short p (begun ++ (held ++ (g.came ++ []))))

-- ---- whole scripts

pub script_short : (bytes : List ℕ) → list_all has_short_content (script_of bytes).entries ≡ true
script_short bytes = go (head_by_line (whole_line bytes))
  where
    go : (r : Result Head ScriptFaultKind) → list_all has_short_content (begun r bytes).entries ≡ true
    go (Ok head) = rest_short (start head (upto 0x0A bytes)) (past 0x0A bytes)
    go (Err what) = refl
