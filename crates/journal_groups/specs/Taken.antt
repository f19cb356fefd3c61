-- A group whose head and records are taken one after another.
use Rattle.std.specs.Prelude.{◌≡◌, ℕ, ◌+◌, ◌<◌, ◌≤◌, ◌++◌, length}
use Rattle.db_records.specs.declared.change.Change.{Change}
use Rattle.record_text.specs.Grammar.{IsRecord, largest_wide}
use Rattle.journal_groups.specs.Groups.{change_text, head_of}
use Rattle.journal_groups.specs.Reader.{State}

-- A head was taken from the front, which says of how many bytes the records behind it are.
pub record HasTakenHead (old new : State) (size : ℕ) : Type 0 where
  pub wide : size ≤ largest_wide
  pub text : old.left ≡ head_of old.number size ++ new.left
  pub at : new.at ≡ old.at + length (head_of old.number size)
  pub number : new.number ≡ old.number

-- A record was taken from the front; of so many bytes that were to come with it so many are behind it.
pub record HasTakenRecord (size : ℕ) (old new : State) (change : Change) (behind : ℕ) : Type 0 where
  pub fits : IsRecord change.row
  pub text : old.left ≡ change_text change ++ new.left
  pub sizes : size ≡ length (change_text change) + behind
  pub less : behind < size
  pub at : new.at ≡ old.at + length (change_text change)
  pub number : new.number ≡ old.number
