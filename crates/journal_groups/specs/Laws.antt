-- What reading and printing have to do with each other.
use Rattle.std.specs.Prelude.{◌≡◌, ◌≢◌, ◌↔◌, ◌<◌, ◌^◌, ℕ, List, ◌++◌, Some, None}
use Rattle.db_records.specs.declared.change.Change.{Change}
use Rattle.record_text.specs.Reading.{Done, Ends, Wrong}
use Rattle.record_text.specs.declared.fault.Part.{Part}
use Rattle.journal_groups.specs.Groups.{IsGroup, group_text, mark, open_byte}
use Rattle.journal_groups.specs.Reading.{group_at, next_at}
use Rattle.journal_groups.specs.Causes.{GroupGoesOn, GoesOn, StopsAt, GroupStopsAt}
use Rattle.journal_groups.specs.Committed.{HasGroups, groups_of}

-- a group stands behind an open mark, and nothing else is read as one, whatever follows
pub record GroupsHaveOneText : Type 0 where
  pub found : (number : ℕ) (bytes : List ℕ) (changes : List Change) (rest : List ℕ) → next_at number bytes ≡ Done (Some changes) rest → IsGroup changes × (bytes ≡ mark open_byte ++ (group_text number changes ++ rest))
  pub only : (number : ℕ) (changes : List Change) (rest : List ℕ) → IsGroup changes → next_at number (mark open_byte ++ (group_text number changes ++ rest)) ≡ Done (Some changes) rest
  -- the committed text ends at a mark that isn't open, and nowhere else
  pub ended : (number : ℕ) (bytes rest : List ℕ) → next_at number bytes ≡ Done None rest → (byte : ℕ) × ((byte ≢ open_byte) × (bytes ≡ mark byte ++ rest))
  pub ends : (number : ℕ) (byte : ℕ) (rest : List ℕ) → byte ≢ open_byte → next_at number (mark byte ++ rest) ≡ Done None rest
  -- the recursion on the bytes gives the groups that they are
  pub are_groups : (bytes : List ℕ) (groups : List (List Change)) → groups_of bytes ≡ Some groups → HasGroups 1 bytes groups
  pub groups_are : (bytes : List ℕ) (groups : List (List Change)) → HasGroups 1 bytes groups → groups_of bytes ≡ Some groups

-- what bytes must be that end too early, and that can't go on
pub record FaultsHaveTheirCause : Type 0 where
  pub short : (number : ℕ) (bytes : List ℕ) → number < 2 ^ 64 → (next_at number bytes ≡ Ends) ↔ GoesOn number bytes
  pub bad : (number : ℕ) (bytes : List ℕ) (part : Part) (left : ℕ) → number < 2 ^ 64 → next_at number bytes ≡ Wrong part left → StopsAt number bytes left
  pub short_group : (number : ℕ) (bytes : List ℕ) → number < 2 ^ 64 → (group_at number bytes ≡ Ends) ↔ GroupGoesOn number bytes
  pub bad_group : (number : ℕ) (bytes : List ℕ) (part : Part) (left : ℕ) → number < 2 ^ 64 → group_at number bytes ≡ Wrong part left → GroupStopsAt number bytes left
