-- What the bytes of a script say: its head, and then one thing after another; and the first fault that ends it. The form of scripts is this
-- project's own choice.
use Rattle.std.specs.Prelude.{ℕ, zero, suc, ◌+◌, ◌-◌, Bool, true, false, ◌==◌, nat_le, nat_lt, is_some, List, [], ◌∷◌, ◌++◌, length, take, drop, if◌then◌else◌, Option, Some, None, Result, Ok, Err}
use Rattle.std.specs.Option.{option_to_list}
use Rattle.wire_text.specs.Parts.{upto, past, is_in}
use Rattle.wire_text.specs.Head.{head_of, client_of}
use Rattle.wire_text.specs.Words.{line_of}
use Rattle.wire_text.specs.LineKind.{kind_of}
use Rattle.wire_text.specs.declared.fault.ScriptFault.{ScriptFault}
use Rattle.wire_text.specs.declared.fault.ScriptFaultKind.{ScriptFaultKind}
use Rattle.wire_text.specs.declared.fault.ScriptFaultKind.TheVariants.{BadHead, LongLine, BadData, Cut, LongData}
use Rattle.wire_text.specs.declared.head.Head.{Head}
use Rattle.wire_text.specs.declared.entry.Entry.{Entry}
use Rattle.wire_text.specs.declared.entry.Entry.TheVariants.{Put, Clear, Command}
use Rattle.depot_model.specs.declared.request.Content.{Content}
use Rattle.wire_text.specs.declared.line_kind.LineKind.{LineKind}
use Rattle.wire_text.specs.declared.line_kind.LineKind.TheVariants.{Skipped, Block, Clear as Clears, Input, CommandLine, Bad, LongBlock}

-- a point of a script between two of its lines: the client of the head, how many bytes stand before it, the number of the next command, and
-- the input that waits for it
pub record Point : Type 0 where
  pub client : List ℕ
  pub place : ℕ
  pub number : ℕ
  pub input : Option (List ℕ)

-- a line with its block: how many bytes it has, what it says, and the input that waits after it
pub record Part : Type 0 where
  pub size : ℕ
  pub entry : Option Entry
  pub input : Option (List ℕ)

-- a content is no longer than a block may be
abbrev pub is_short : Content → Bool
is_short content = nat_le (length content.bytes) 8388608

abbrev pub has_short_content : Entry → Bool
has_short_content (Put content) = is_short content
has_short_content _ = true

-- a block with which a text begins, given what stands behind it: a line feed
abbrev pub block_before : List ℕ → List ℕ → Result (List ℕ) ScriptFaultKind
block_before block [] = Err Cut
block_before block (b ∷ text) = if b == 0x0A then Ok block else Err BadData

abbrev pub block_of : ℕ → List ℕ → Result (List ℕ) ScriptFaultKind
block_of n text = block_before (take n text) (drop n text)

-- a part with a block of n bytes, behind a line of so many
abbrev pub with_block : ℕ → ℕ → (List ℕ → Option Entry) → (List ℕ → Option (List ℕ)) → Result (List ℕ) ScriptFaultKind → Result Part ScriptFaultKind
with_block line n entry input (Ok block) = Ok (record { size = line + 1 + n + 1; entry = entry block; input = input block })
with_block line n entry input (Err what) = Err what

-- the part of a line of a kind, with the text behind it
abbrev pub part_of : Point → List ℕ → LineKind → List ℕ → Result Part ScriptFaultKind
part_of point line Skipped text = Ok (record { size = length line + 1; entry = None; input = point.input })
part_of point line (Block path n) text = with_block (length line) n (λ block. Some (Put (record { path = path; bytes = block }))) (λ block. point.input) (block_of n text)
part_of point line (Clears path) text = Ok (record { size = length line + 1; entry = Some (Clear path); input = point.input })
part_of point line (Input n) text = with_block (length line) n (λ block. None) (λ block. Some block) (block_of n text)
part_of point line CommandLine text =
    Ok (record { size = length line + 1; entry = Some (Command (record { number = point.number; line = line_of line; input = point.input })); input = None })
part_of point line Bad text = Err BadData
part_of point line LongBlock text = Err LongData

-- the first line of a text that a line feed ends, of at most 8,192 bytes
abbrev pub whole_line : List ℕ → Result (List ℕ) ScriptFaultKind
whole_line text =
    if nat_lt 8192 (length (upto 0x0A text)) then Err LongLine else
    (if is_in 0x0A text then Ok (upto 0x0A text) else Err Cut)

abbrev pub part_by_line : Point → Result (List ℕ) ScriptFaultKind → List ℕ → Result Part ScriptFaultKind
part_by_line point (Ok line) text = part_of point line (kind_of point.client (is_some point.input) line) text
part_by_line point (Err what) text = Err what

-- the part with which a text begins
abbrev pub first_part : Point → List ℕ → Result Part ScriptFaultKind
first_part point text = part_by_line point (whole_line text) (past 0x0A text)

-- the number of the next command
abbrev pub number_after : ℕ → Option Entry → ℕ
number_after number None = number
number_after number (Some (Put content)) = number
number_after number (Some (Clear path)) = number
number_after number (Some (Command item)) = number + 1

-- the point behind a part
abbrev pub behind : Point → Part → Point
behind point part = record { client = point.client; place = point.place + part.size; number = number_after point.number part.entry; input = part.input }

-- what is said from a point on, and the fault that ends it where there is one
pub record Entries : Type 0 where
  pub entries : List Entry
  pub fault : Option ScriptFault

abbrev pub fault_at : ScriptFaultKind → ℕ → ScriptFault
fault_at what place = record { what = what; place = place }

abbrev pub ends_with : Option ScriptFault → Entries
ends_with fault = record { entries = []; fault = fault }

abbrev pub with_front : List Entry → Entries → Entries
with_front front rest = record { entries = front ++ rest.entries; fault = rest.fault }

-- no bytes follow: the script is whole, or cut while an input waits
abbrev pub end_fault : Point → Option ScriptFault
end_fault point = if is_some point.input then Some (fault_at Cut point.place) else None

-- the place of a fault is that of its line, or the text's end where the text is cut
abbrev pub stop_place : ScriptFaultKind → ℕ → ℕ → ℕ
stop_place Cut place n = place + n
stop_place _ place n = place

-- what is said where a part, or a fault, comes first
abbrev pub said : Result Part ScriptFaultKind → (ScriptFaultKind → Entries) → (Part → Entries) → Entries
said (Ok part) stops goes = goes part
said (Err what) stops goes = stops what

-- What a text says from a point on. The first `passed` bytes are the end of a part, behind which the point is.
abbrev pub entries_from : Point → ℕ → List ℕ → Entries
entries_from point passed [] = ends_with (end_fault point)
entries_from point (suc passed) (b ∷ text) = entries_from point passed text
entries_from point zero (b ∷ text) =
    said (first_part point (b ∷ text))
    (λ what. ends_with (Some (fault_at what (stop_place what point.place (length text + 1)))))
    (λ part. with_front (option_to_list part.entry) (entries_from (behind point part) (part.size - 1) text))

-- the most bytes of a script
abbrev pub max_script : ℕ
max_script = 67108864

abbrev pub too_long : ScriptFault
too_long = fault_at LongData max_script

-- a text that goes on past the most bytes has too many of them where it would be whole or cut there
abbrev pub fault_past : ScriptFault → ScriptFaultKind → ScriptFault
fault_past fault Cut = too_long
fault_past fault _ = fault

abbrev pub limited_fault : Option ScriptFault → ScriptFault
limited_fault None = too_long
limited_fault (Some fault) = fault_past fault fault.what

abbrev pub limited : Bool → Entries → Entries
limited false entries = entries
limited true entries = record { entries = entries.entries; fault = Some (limited_fault entries.fault) }

-- what a script says from a point on
abbrev pub rest_of : Point → List ℕ → Entries
rest_of point text = limited (nat_lt max_script (point.place + length text)) (entries_from point 0 (take (max_script - point.place) text))

-- the head with which a script begins
abbrev pub head_or : Option Head → Result Head ScriptFaultKind
head_or (Some head) = Ok head
head_or None = Err BadHead

abbrev pub head_by_line : Result (List ℕ) ScriptFaultKind → Result Head ScriptFaultKind
head_by_line (Ok line) = head_or (head_of line)
head_by_line (Err what) = Err what

-- the point behind the head
abbrev pub start : Head → List ℕ → Point
start head line = record { client = client_of head; place = length line + 1; number = 1; input = None }

-- a head, where the script has one, and what it says behind it
pub record Script : Type 0 where
  pub head : Option Head
  pub entries : List Entry
  pub fault : Option ScriptFault

abbrev pub headed : Head → Entries → Script
headed head rest = record { head = Some head; entries = rest.entries; fault = rest.fault }

abbrev pub headless : ScriptFault → Script
headless fault = record { head = None; entries = []; fault = Some fault }

abbrev pub begun : Result Head ScriptFaultKind → List ℕ → Script
begun (Ok head) bytes = headed head (rest_of (start head (upto 0x0A bytes)) (past 0x0A bytes))
begun (Err what) bytes = headless (fault_at what (stop_place what 0 (length bytes)))

-- what a script says
abbrev pub script_of : List ℕ → Script
script_of bytes = begun (head_by_line (whole_line bytes)) bytes
