-- The text of a journal. Its shape is this project's own choice; the marks are in the style of the journal notes of
-- the database schema reference.
use Rattle.std.specs.Prelude.{◌≡◌, ℕ, ◌+◌, List, [], ◌∷◌, ◌++◌, length, codes, decimal}

-- the line that a group begins with: its number, and the length of its records in bytes
abbrev pub head : ℕ → ℕ → List ℕ
head number n = codes "@nx@ " ++ decimal number ++ codes " " ++ decimal n ++ codes "\n"

-- A group of this number: its head line, and as many bytes of records as it says.
pub record IsGroup (number : ℕ) (text : List ℕ) : Type 0 where
  pub records : List ℕ
  pub is : text ≡ head number (length records) ++ records

-- a mark with this byte: open with `e`, 101, and closed with any other; a written closed mark has `m`, 109
abbrev pub mark : ℕ → List ℕ
mark byte = 64 ∷ byte ∷ 120 ∷ 64 ∷ 10 ∷ []

-- open marks, each with its group
abbrev pub blocks : List (List ℕ) → List ℕ
blocks [] = []
blocks (g ∷ groups) = mark 101 ++ g ++ blocks groups

-- each of them is a group, numbered from this number on
abbrev pub AreGroupsFrom : ℕ → List (List ℕ) → Type 0
AreGroupsFrom number [] = Unit {0}
AreGroupsFrom number (g ∷ groups) = IsGroup number g × AreGroupsFrom (number + 1) groups

-- the groups of a generation
abbrev pub AreGroups : List (List ℕ) → Type 0
AreGroups groups = AreGroupsFrom 1 groups
