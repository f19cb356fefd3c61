-- What a reader of groups has before it.
use Rattle.std.specs.Prelude.{◌≡◌, ◌≢◌, ◌⊎◌, ℕ, ◌+◌, ◌<◌, ◌≤◌, List, [], ◌++◌, length, drop, Option, Some, None, Result, Ok, Err}
use Rattle.db_records.specs.declared.change.Change.{Change}
use Rattle.record_text.specs.declared.fault.RecordFault.{RecordFault}
use Rattle.record_text.specs.declared.fault.RecordFault.TheVariants as records
use Rattle.record_text.specs.Answers.{Fails}
use Rattle.record_text.specs.Reading.{Done}
use Rattle.record_text.specs.Grammar.{largest_wide}
use Rattle.journal_groups.specs.declared.body.Body.{Body}
use Rattle.journal_groups.specs.declared.fault.GroupFault.{GroupFault}
use Rattle.journal_groups.specs.declared.fault.GroupFault.TheVariants as faults
use Rattle.journal_groups.specs.Groups.{AreRecords, GroupBegins, IsGroup, body_of, head_of, group_text, mark, open_byte}
use Rattle.journal_groups.specs.Reading.{next_at, window_at, FailsAt}

pub record State : Type 0 where
  -- the bytes that are left
  pub left : List ℕ
  -- the place of the first of them
  pub at : ℕ
  -- the number of the next group
  pub number : ℕ
  -- the records that were read of it
  pub records : List Change
  -- the place where they end
  pub reached : ℕ

-- ---- what was read of a group that isn't whole yet

-- records were read, behind those that were read before
pub record HasReadMore (bytes : List ℕ) (old new : Body) : Type 0 where
  pub from : old.read ≤ new.read
  pub within : new.read ≤ length bytes
  pub more : List Change
  pub are_records : AreRecords more
  pub changes : new.changes ≡ old.changes ++ more
  pub text : drop old.read bytes ≡ body_of more ++ drop new.read bytes
  pub size : old.size ≡ length (body_of more) + new.size

-- one record more was read, or there is none
abbrev pub HasReadOne : {X : Type 0} → List ℕ → Body → Body → Result X RecordFault → Type 0
HasReadOne bytes old new (Ok x) = (new.size < old.size) × HasReadMore bytes old new
HasReadOne bytes old new (Err fault) = (new ≡ old) × Fails fault (window_at old.size (drop old.read bytes))

-- all records were read, or those before a fault
abbrev pub HasReadAll : {X : Type 0} → List ℕ → Body → Body → Result X RecordFault → Type 0
HasReadAll bytes old new (Ok x) = (new.size ≡ 0) × HasReadMore bytes old new
HasReadAll bytes old new (Err fault) = (0 < new.size) × Fails fault (window_at new.size (drop new.read bytes)) × HasReadMore bytes old new

-- an open mark, a head and records were read of the next group
pub record HasBody (number : ℕ) (bytes : List ℕ) (body : Body) : Type 0 where
  pub some : 0 < body.read
  pub within : body.read ≤ length bytes
  pub size : ℕ
  pub wide : size ≤ largest_wide
  pub are_records : AreRecords body.changes
  pub size_is : size ≡ length (body_of body.changes) + body.size
  pub text : bytes ≡ mark open_byte ++ (head_of number size ++ (body_of body.changes ++ drop body.read bytes))

abbrev pub IsBegun : ℕ → List ℕ → Option Body → Type 0
IsBegun number bytes None = Unit {0}
IsBegun number bytes (Some body) = HasBody number bytes body

abbrev pub records_of : Option Body → List Change
records_of None = []
records_of (Some body) = body.changes

abbrev pub read_of : Option Body → ℕ
read_of None = 0
read_of (Some body) = body.read

-- the records with which a group begins behind an open mark are the first of these ones
abbrev pub AreAllRecords : ℕ → List ℕ → List Change → Type 0
AreAllRecords number bytes records = (group : List ℕ) (changes : List Change) (at end : ℕ) → bytes ≡ mark open_byte ++ group → GroupBegins number at group changes end → (behind : List Change) × (records ≡ changes ++ behind)

-- what holds where the fault is one of the bytes, and not want of memory
abbrev pub IfOfBytes : RecordFault → Type 0 → Type 0
IfOfBytes records.Memory P = Unit {0}
IfOfBytes _ P = P

abbrev pub IfOfText : GroupFault → Type 0 → Type 0
IfOfText faults.Memory P = Unit {0}
IfOfText _ P = P

-- a mark and a head were read, or a mark that isn't open
abbrev pub HasBegun : ℕ → List ℕ → Result (Option Body) RecordFault → Type 0
HasBegun number bytes (Ok (Some body)) = HasBody number bytes body
HasBegun number bytes (Ok None) = (rest : List ℕ) × (next_at number bytes ≡ Done None rest)
HasBegun number bytes (Err fault) = Fails fault (next_at number bytes) × IfOfBytes fault (AreAllRecords number bytes [])

-- ---- what a call answers

-- the same bytes are left, and the same group is the next one
abbrev pub IsLeft : State → State → Type 0
IsLeft old new = (new.left ≡ old.left) × (new.at ≡ old.at) × (new.number ≡ old.number)

-- Behind an open mark, which stands at the one place, a group begins with these records, which end at the other place.
pub record BeginsAt (number at : ℕ) (text : List ℕ) (records : List Change) (end : ℕ) : Type 0 where
  pub group : List ℕ
  pub opened : text ≡ mark open_byte ++ group
  pub begins : GroupBegins number (at + 5) group records end

-- These records were read of the next group and end at this place, and there are no others.
pub record HasRecords (number at : ℕ) (text : List ℕ) (records : List Change) (reached : ℕ) : Type 0 where
  pub there : (records ≡ []) ⊎ BeginsAt number at text records reached
  pub all : AreAllRecords number text records

-- the changes of the next group are given, and the reader stands behind it; at a mark that isn't open it stays as it was, and where there is a fault
-- it has what it read
abbrev pub IsNext : State → State → Result (Option (List Change)) GroupFault → Type 0
IsNext old new (Ok (Some changes)) = (next_at old.number old.left ≡ Done (Some changes) new.left) × (new.at + length new.left ≡ old.at + length old.left) × (new.number ≡ old.number + 1) × (new.reached ≡ new.at)
IsNext old new (Ok None) = (new ≡ old) × ((rest : List ℕ) × (next_at old.number old.left ≡ Done None rest))
IsNext old new (Err fault) = IsLeft old new × FailsAt old.at old.left fault (next_at old.number old.left) × IfOfText fault (HasRecords old.number old.at old.left new.records new.reached)

-- An open mark and the group behind it were taken from the front; or a mark that isn't open stands there, and all stayed as it was.
abbrev pub HasTaken : State → State → Option (List Change) → Type 0
HasTaken old new (Some changes) = IsGroup changes × (old.left ≡ mark open_byte ++ (group_text old.number changes ++ new.left)) × (new.at + length new.left ≡ old.at + length old.left) × (new.number ≡ old.number + 1) × (new.reached ≡ new.at)
HasTaken old new None = (new ≡ old) × ((byte : ℕ) × ((rest : List ℕ) × ((byte ≢ open_byte) × (old.left ≡ mark byte ++ rest))))
