-- The groups of a file that is read in pieces.
use Rattle.std.specs.Prelude.{◌≡◌, ◌≢◌, ◌⊎◌, ℕ, ◌+◌, ◌-◌, ◌<◌, ◌^◌, List, [], ◌∷◌, ◌++◌, length, drop, Option, Some, None}
use Rattle.outside_api.specs.Disk.{Files}
use Rattle.depot_rows.specs.db_records.declared.change.Change.{Change}
use Rattle.journal_groups.specs.Groups.{IsGroup, body_of, group_text, mark, open_byte}
use Rattle.record_text.specs.Reading.{Reading}
use Rattle.journal_groups.specs.declared.fault.GroupFault.TheVariants.{BadGroup, Short}
use Rattle.journal_groups.specs.Reading.{FailsAt}
use Rattle.journal_groups.specs.Causes.{GoesOn, StopsAt}
use Rattle.journal_groups.specs.Reader.{State, BeginsAt, HasRecords}
use Rattle.recovery.specs.declared.pieces.FileGroups.{FileGroups}

-- the text that is still before it: what was read and not taken, and the rest of the file
abbrev pub text_left : FileGroups → Files → List ℕ
text_left groups files = groups.reader.left ++ drop groups.read (files groups.file)

-- it knows how long the file is
abbrev pub KnowsEnd : FileGroups → Files → Type 0
KnowsEnd groups files = groups.length ≡ length (files groups.file)

-- the first group of a text and what is behind it; or its first mark isn't open
abbrev pub IsFirst : ℕ → List ℕ → List ℕ → Option (List Change) → Type 0
IsFirst number text rest (Some changes) = IsGroup changes × (text ≡ mark open_byte ++ (group_text number changes ++ rest))
IsFirst number text rest None = (rest ≡ text) × ((byte : ℕ) × ((behind : List ℕ) × ((byte ≢ open_byte) × (text ≡ mark byte ++ behind))))

-- how far it has come after a group, and at a mark that isn't open
abbrev pub HasCome : FileGroups → FileGroups → Option (List Change) → Type 0
HasCome old new (Some changes) = IsGroup changes × (new.reader.number ≡ old.reader.number + 1) × (new.reader.at ≡ old.reader.at + (5 + length (group_text old.reader.number changes))) × (new.reader.reached ≡ new.reader.at)
HasCome old new None = (new.reader.number ≡ old.reader.number) × (new.reader.at ≡ old.reader.at) × (old.reader.at + 5 < 2 ^ 63)

-- With the first of these bytes at the one place, no text goes on from the byte at the other; or all of them may go on, and end there.
abbrev pub IsUnreadable : ℕ → ℕ → List ℕ → ℕ → Type 0
IsUnreadable number at text place = StopsAt number text ((at + length text) - place) ⊎ (GoesOn number text × (place ≡ at + length text))

-- the text can't be read on from a place, and these are the records before it of its next group
abbrev pub HasStopped : ℕ → ℕ → List ℕ → State → ℕ → Type 0
HasStopped number at text now place = IsUnreadable number at text place × HasRecords number at text now.records now.reached

-- with so many bytes of their text left comes the first of these changes with which they are no longer good
pub record IsFirstBad (good : List Change → Type 0) (changes : List Change) (left : ℕ) : Type 0 where
  pub front : List Change
  pub bad : Change
  pub after : List Change
  pub parts : changes ≡ front ++ bad ∷ after
  pub good_front : good front
  pub none : good (front ++ bad ∷ []) → ⊥
  pub left_is : left ≡ length (body_of (bad ∷ after))

-- the place in the file of the first of these changes with which they are no longer good, which end where what was read of groups does
abbrev pub IsBadPlace : (List Change → Type 0) → FileGroups → List Change → ℕ → Type 0
IsBadPlace good groups changes place = (left : ℕ) × ((place ≡ (groups.reader.reached - left) - groups.front) × IsFirstBad good changes left)

-- A text begins with records, which end at a place, as `begins` says of them; the place is that of the first with which they are no longer good.
pub record IsBadRecord (good : List Change → Type 0) (begins : List Change → ℕ → Type 0) (place : ℕ) : Type 0 where
  pub changes : List Change
  pub end : ℕ
  pub there : begins changes end
  pub left : ℕ
  pub bad : IsFirstBad good changes left
  pub place_is : place + left ≡ end

-- all records with which a text begins are good
abbrev pub AreAllGood : (List Change → Type 0) → (List Change → ℕ → Type 0) → Type 0
AreAllGood good begins = (changes : List Change) (end : ℕ) → begins changes end → good changes

-- The first place at which a text behind groups is at fault: that of a record of the next group that isn't good, or, where there is none, of the byte
-- from which no text goes on.
abbrev pub IsTextDamage : (List Change → Type 0) → ℕ → ℕ → List ℕ → ℕ → Type 0
IsTextDamage good number at text place =
    IsBadRecord good (BeginsAt number at text) place ⊎ (AreAllGood good (BeginsAt number at text) × IsUnreadable number at text place)

-- Of a text that begins at a place some bytes were read, from which no reading comes: at the one place stands the first byte that can't go on;
-- or they are all of the text, and end there too early.
pub record IsStop {A : Type 0} (at : ℕ) (text : List ℕ) (read : List ℕ → Reading A) (place : ℕ) : Type 0 where
  pub left : List ℕ
  pub rest : List ℕ
  pub parts : text ≡ left ++ rest
  pub stops : FailsAt at left (BadGroup place) (read left) ⊎ (FailsAt at left (Short place) (read left) × (length rest ≡ 0))
