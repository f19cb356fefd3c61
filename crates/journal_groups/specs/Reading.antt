-- Reading a mark and a group from left to right.
use Rattle.std.specs.Prelude.{◌≡◌, ◌≤◌, ℕ, zero, suc, ◌+◌, ◌-◌, ◌==◌, Bool, nat_le, List, [], ◌∷◌, length, take, drop, codes, Option, Some, None, if◌then◌else◌, Result, Ok, Err}
use Rattle.std.specs.Fmt.{decimal}
use Rattle.db_records.specs.declared.change.Op.{Op}
use Rattle.db_records.specs.declared.change.Change.{Change}
use Rattle.db_records.specs.declared.record.Record.{Record}
use Rattle.record_text.specs.declared.fault.Part.{Part}
use Rattle.record_text.specs.declared.fault.Part.TheVariants.{Field}
use Rattle.record_text.specs.declared.fault.RecordFault.{RecordFault}
use Rattle.record_text.specs.declared.fault.RecordFault.TheVariants as records
use Rattle.record_text.specs.Reading as readings
use Rattle.record_text.specs.Reading.{Done, Ends, Wrong, and_then}
use Rattle.record_text.specs.Spelling.{sign, number_at}
use Rattle.record_text.specs.Words.{word_at}
use Rattle.record_text.specs.Grammar.{record_at, largest_wide}
use Rattle.journal_groups.specs.Groups.{open_byte}
use Rattle.journal_groups.specs.declared.fault.GroupFault.{GroupFault}
use Rattle.journal_groups.specs.declared.fault.GroupFault.TheVariants as faults

-- these bytes and no others
abbrev pub exactly : List ℕ → List ℕ → readings.Reading (Unit {0})
exactly word bytes = word_at (λ x. word) (tt ∷ []) Field bytes

-- the line before a group's records: its number, and how many bytes they have
abbrev pub head_at : ℕ → List ℕ → readings.Reading ℕ
head_at number bytes =
    and_then (exactly (codes "@nx@ ") bytes) (λ _ rest1.
    and_then (exactly (decimal number) rest1) (λ _ rest2.
    and_then (exactly (codes " ") rest2) (λ _ rest. number_at 0 largest_wide 0x0A rest)))

abbrev pub change_of : Op × Record → Change
change_of x = record { op = x.0; row = x.1 }

-- one record, with so many bytes of the group still to come: a record that is open behind them can't go on there
abbrev pub window_read : ℕ → List ℕ → readings.Reading (Op × Record) → readings.Reading Change
window_read size bytes (Done x rest) = Done (change_of x) (drop (length (take size bytes) - length rest) bytes)
window_read size bytes Ends = if nat_le (length bytes) size then Ends else Wrong Field (length bytes - size)
window_read size bytes (Wrong part left) = Wrong Field (left + (length bytes - size))

abbrev pub window_at : ℕ → List ℕ → readings.Reading Change
window_at size bytes = window_read size bytes (record_at (take size bytes))

-- the records of a group, with so many bytes still to come. The first number only bounds the recursion, since each record has a byte
abbrev pub body_below : ℕ → ℕ → List ℕ → readings.Reading (List Change)
body_below steps zero bytes = Done [] bytes
body_below zero (suc size) bytes = Ends
body_below (suc steps) (suc size) bytes =
    and_then (window_at (suc size) bytes) (λ change rest.
    and_then (body_below steps (suc size - (length bytes - length rest)) rest) (λ changes after. Done (change ∷ changes) after))

abbrev pub body_at : ℕ → List ℕ → readings.Reading (List Change)
body_at size bytes = body_below size size bytes

-- the group of this number
abbrev pub group_at : ℕ → List ℕ → readings.Reading (List Change)
group_at number bytes = and_then (head_at number bytes) body_at

-- a mark: whether it is open
abbrev pub behind_byte : ℕ → List ℕ → readings.Reading Bool
behind_byte byte bytes = and_then (exactly (codes "x@\n") bytes) (λ _ rest. Done (byte == open_byte) rest)

abbrev pub behind_sign : List ℕ → readings.Reading Bool
behind_sign [] = Ends
behind_sign (byte ∷ rest) = behind_byte byte rest

abbrev pub mark_at : List ℕ → readings.Reading Bool
mark_at bytes = and_then (exactly (sign ∷ []) bytes) (λ _ rest. behind_sign rest)

-- a group behind an open mark, and nothing behind another one
abbrev pub behind_mark : ℕ → Bool → List ℕ → readings.Reading (Option (List Change))
behind_mark number opened rest = if opened then and_then (group_at number rest) (λ changes after. Done (Some changes) after) else Done None rest

-- what a call wants: a closed mark, or an open mark and the group of its number
abbrev pub next_at : ℕ → List ℕ → readings.Reading (Option (List Change))
next_at number bytes = and_then (mark_at bytes) (behind_mark number)

-- ---- what is answered of it

-- a fault where the bytes that are left, so many, begin at this place
abbrev pub placed : ℕ → ℕ → RecordFault → GroupFault
placed at size records.Memory = faults.Memory
placed at size records.Cut = faults.Short (at + size)
placed at size (records.Wrong part left) = faults.BadGroup (at + (size - left))

abbrev pub IsWithin : ℕ → RecordFault → Type 0
IsWithin size (records.Wrong part left) = left ≤ size
IsWithin size _ = Unit {0}

-- no memory, or the bytes end too early, or so many are left at the first byte that can't go on
abbrev pub FailsAt : {A : Type 0} → ℕ → List ℕ → GroupFault → readings.Reading A → Type 0
FailsAt at bytes faults.Memory reading = Unit {0}
FailsAt at bytes (faults.Short place) reading = (reading ≡ Ends) × (place ≡ at + length bytes)
FailsAt at bytes (faults.BadGroup place) reading = (part : Part) × ((left : ℕ) × ((reading ≡ Wrong part left) × (place + left ≡ at + length bytes)))

abbrev pub GivesAt : {X A : Type 0} → ℕ → List ℕ → (X → A) → (X → List ℕ) → Result X GroupFault → readings.Reading A → Type 0
GivesAt at bytes value rest (Ok x) reading = reading ≡ Done (value x) (rest x)
GivesAt at bytes value rest (Err fault) reading = FailsAt at bytes fault reading
