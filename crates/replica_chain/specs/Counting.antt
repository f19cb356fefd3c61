-- The groups of a text, as they are counted. This project's own choice.
use Rattle.std.specs.Prelude.{◌≡◌, ◌≤◌, ℕ, ◌+◌, List, ◌++◌, length, take, drop, Option, Some, None}
use Rattle.std.specs.List.{AllByRecursion}
use Rattle.depot_rows.specs.db_records.declared.change.Change.{Change}
use Rattle.journal_groups.specs.Groups.{IsGroup, groups_text}
use Rattle.journal_groups.specs.Reader.{HasTaken, IsLeft, State}
use Rattle.replica_pull.specs.Prefix.{HasNoGroup}

-- The groups at the front of a text are counted, and what is left is behind them.
pub record HasCounted (text : List ℕ) (reader : State) (groups : ℕ) : Type 0 where
  pub done : List (List Change)
  pub are_groups : AllByRecursion IsGroup done
  pub is : text ≡ groups_text 1 done ++ reader.left
  pub number : reader.number ≡ 1 + length done
  pub count : groups ≡ length done

-- the next group was taken; or none stands there
abbrev pub IsNextGroupOf : State → State → Option (List Change) → Type 0
IsNextGroupOf old new (Some changes) = HasTaken old new (Some changes)
IsNextGroupOf old new None = IsLeft old new × HasNoGroup old.number old.left

-- so many bytes from a place on stand at the front of a buffer; or the text ends there
abbrev pub IsFound : List ℕ → ℕ → List ℕ → Option ℕ → Type 0
IsFound text at buffer (Some n) = (n ≤ length (drop at text)) × (take n buffer ≡ take n (drop at text))
IsFound text at buffer None = length text ≤ at
