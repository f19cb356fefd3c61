-- The committed groups of a journal's text.
use Rattle.std.specs.Prelude.{◌≡◌, ◌≢◌, ℕ, zero, suc, List, [], ◌∷◌, ◌++◌, length, Option, Some, None, option_map}
use Rattle.std.specs.List.{AllByRecursion}
use Rattle.db_records.specs.declared.change.Change.{Change}
use Rattle.record_text.specs.Reading as readings
use Rattle.journal_groups.specs.Groups.{IsGroup, mark, open_byte, groups_text}
use Rattle.journal_groups.specs.Reading.{next_at}

-- the bytes are these groups, with numbers from this one on, and a mark that isn't open. What follows isn't asked
pub record HasGroups (number : ℕ) (bytes : List ℕ) (groups : List (List Change)) : Type 0 where
  pub byte : ℕ
  pub after : List ℕ
  pub closed : byte ≢ open_byte
  pub are_groups : AllByRecursion IsGroup groups
  pub parts : bytes ≡ groups_text number groups ++ (mark byte ++ after)

abbrev pub groups_then : (List ℕ → Option (List (List Change))) → readings.Reading (Option (List Change)) → Option (List (List Change))
groups_then go (readings.Done (Some changes) rest) = option_map (λ groups. changes ∷ groups) (go rest)
groups_then go (readings.Done None rest) = Some []
groups_then go _ = None

-- the groups as a recursion on the bytes: none where some open mark has no group and mark behind it. The first number only
-- bounds the recursion, since each group has a byte
abbrev pub groups_below : ℕ → ℕ → List ℕ → Option (List (List Change))
groups_below zero number bytes = None
groups_below (suc n) number bytes = groups_then (groups_below n (suc number)) (next_at number bytes)

-- the committed groups of a journal's text
abbrev pub groups_of : List ℕ → Option (List (List Change))
groups_of bytes = groups_below (suc (length bytes)) 1 bytes
