-- The text of a journal: groups of records, each behind a mark that is open, and then a mark that isn't. The records are those
-- of a Helix Core journal (System Administrator Guide, "Journal files"); heads and marks are this project's own choice.
use Rattle.std.specs.Prelude.{◌≡◌, ℕ, suc, ◌+◌, ◌≤◌, List, [], ◌∷◌, ◌++◌, length, codes}
use Rattle.std.specs.List.{flat_map, AllByRecursion}
use Rattle.db_records.specs.declared.change.Change.{Change}
use Rattle.record_text.specs.Spelling.{sign, spelled_number}
use Rattle.record_text.specs.Grammar.{spelling, IsRecord, largest_wide}

abbrev pub change_text : Change → List ℕ
change_text change = spelling change.op change.row

-- the records of a group, one after another
abbrev pub body_of : List Change → List ℕ
body_of changes = flat_map change_text changes

-- the line before them: the group's number, and how many bytes they have
abbrev pub head_of : ℕ → ℕ → List ℕ
head_of number size = codes "@nx@ " ++ (spelled_number 0x20 number ++ spelled_number 0x0A size)

abbrev pub group_text : ℕ → List Change → List ℕ
group_text number changes = head_of number (length (body_of changes)) ++ body_of changes

-- changes whose rows have a text, and which are no longer than a head can say
abbrev pub AreRecords : List Change → Type 0
AreRecords changes = AllByRecursion (λ change. IsRecord change.row) changes

abbrev pub IsGroup : List Change → Type 0
IsGroup changes = AreRecords changes × (length (body_of changes) ≤ largest_wide)

-- a mark is five bytes, and the second tells whether it is open
abbrev pub mark : ℕ → List ℕ
mark byte = sign ∷ byte ∷ codes "x@\n"

abbrev pub open_byte : ℕ
open_byte = 0x65

abbrev pub closed_byte : ℕ
closed_byte = 0x6D

-- groups with numbers from this one on, each behind an open mark
abbrev pub groups_text : ℕ → List (List Change) → List ℕ
groups_text number [] = []
groups_text number (changes ∷ groups) = mark open_byte ++ (group_text number changes ++ groups_text (suc number) groups)

-- With the first of these bytes at the one place, a group begins with these records, which end at the other: a head that says of how many bytes its
-- records are, and they are no more.
pub record GroupBegins (number at : ℕ) (bytes : List ℕ) (changes : List Change) (end : ℕ) : Type 0 where
  pub size : ℕ
  pub rest : List ℕ
  pub wide : size ≤ largest_wide
  pub are_records : AreRecords changes
  pub within : length (body_of changes) ≤ size
  pub parts : bytes ≡ head_of number size ++ (body_of changes ++ rest)
  pub ends : end + length rest ≡ at + length bytes
