-- Bytes that may still become what is wanted, and the first byte with which they no longer may. That a group's length is
-- compared with its records at the group's end alone, and not while it is read, is this project's own choice.
use Rattle.std.specs.Prelude.{◌≡◌, ◌≢◌, ℕ, suc, ◌<◌, ◌≤◌, List, [], ◌∷◌, ◌++◌, length, Result, Ok, Err}
use Rattle.db_records.specs.declared.change.Change.{Change}
use Rattle.record_text.specs.Reading.{Begins}
use Rattle.record_text.specs.Clauses.{IsBeginning}
use Rattle.record_text.specs.Grammar.{largest_wide}
use Rattle.journal_groups.specs.declared.fault.GroupFault.{GroupFault}
use Rattle.journal_groups.specs.declared.fault.GroupFault.TheVariants as faults
use Rattle.journal_groups.specs.Groups.{body_of, head_of, group_text, AreRecords, IsGroup, mark, open_byte}

-- whole records and one that can go on, before the end of so many bytes: a record that is open there can go on as long as no
-- byte stands behind
pub record BodyGoesOn (size : ℕ) (bytes : List ℕ) : Type 0 where
  pub changes : List Change
  pub rest : List ℕ
  pub are_records : AreRecords changes
  pub parts : bytes ≡ body_of changes ++ rest
  pub goes_on : IsBeginning rest
  pub within : length bytes ≤ size
  pub unfinished : rest ≡ [] → length bytes < size

-- a part of a head, or a head and records that go on
pub data GroupGoesOn (number : ℕ) (bytes : List ℕ) : Type 0 where
  in_head : Begins (λ size. size ≤ largest_wide) (head_of number) bytes → GroupGoesOn number bytes
  in_body : (size : ℕ) (body : List ℕ) → size ≤ largest_wide → bytes ≡ head_of number size ++ body → BodyGoesOn size body → GroupGoesOn number bytes

-- a part of a mark, or an open mark and a group that goes on
pub data GoesOn (number : ℕ) (bytes : List ℕ) : Type 0 where
  in_mark : Begins (λ byte. Unit {0}) mark bytes → GoesOn number bytes
  in_group : (group : List ℕ) → bytes ≡ mark open_byte ++ group → GroupGoesOn number group → GoesOn number bytes

-- the bytes begin with what is wanted: a mark that isn't open, or an open mark and the group of this number
pub data BeginsWanted (number : ℕ) (bytes : List ℕ) : Type 0 where
  closed : (byte : ℕ) (rest : List ℕ) → byte ≢ open_byte → bytes ≡ mark byte ++ rest → BeginsWanted number bytes
  group : (changes : List Change) (rest : List ℕ) → IsGroup changes → bytes ≡ mark open_byte ++ (group_text number changes ++ rest) → BeginsWanted number bytes

-- with so many bytes left comes the first byte that can't go on: whatever follows it, the bytes neither begin with what is
-- wanted nor may become it
pub record StopsAt (number : ℕ) (bytes : List ℕ) (left : ℕ) : Type 0 where
  pub front : List ℕ
  pub bad : ℕ
  pub after : List ℕ
  pub parts : bytes ≡ front ++ bad ∷ after
  pub place : left ≡ suc (length after)
  pub goes_on : GoesOn number front
  pub none : (more : List ℕ) → (GoesOn number ((front ++ bad ∷ []) ++ more) → ⊥) × (BeginsWanted number ((front ++ bad ∷ []) ++ more) → ⊥)

-- the same of a group alone
pub record GroupStopsAt (number : ℕ) (bytes : List ℕ) (left : ℕ) : Type 0 where
  pub front : List ℕ
  pub bad : ℕ
  pub after : List ℕ
  pub parts : bytes ≡ front ++ bad ∷ after
  pub place : left ≡ suc (length after)
  pub goes_on : GroupGoesOn number front
  pub none : (more : List ℕ) → (GroupGoesOn number ((front ++ bad ∷ []) ++ more) → ⊥) × ((changes : List Change) (rest : List ℕ) → IsGroup changes → (front ++ bad ∷ []) ++ more ≡ group_text number changes ++ rest → ⊥)

-- ---- what an answer says

abbrev pub IfShort : {X : Type 0} → Result X GroupFault → (ℕ → Type 0) → Type 0
IfShort (Err (faults.Short place)) P = P place
IfShort _ P = Unit {0}

abbrev pub IfBad : {X : Type 0} → Result X GroupFault → (ℕ → Type 0) → Type 0
IfBad (Err (faults.BadGroup place)) P = P place
IfBad _ P = Unit {0}

-- this was answered, unless there was no memory
abbrev pub IsAnswer : {X : Type 0} → Result X GroupFault → X → Type 0
IsAnswer (Ok x) y = x ≡ y
IsAnswer (Err faults.Memory) y = Unit {0}
IsAnswer (Err _) y = ⊥

-- it ends at this place, unless there was no memory
abbrev pub IsShort : {X : Type 0} → Result X GroupFault → ℕ → Type 0
IsShort (Err faults.Memory) place = Unit {0}
IsShort (Err (faults.Short found)) place = found ≡ place
IsShort _ place = ⊥
