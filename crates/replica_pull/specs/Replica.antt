-- What a replica has taken of its master's journal, and what one pull does. How a replica follows is this project's own choice; that it keeps a filtered
-- copy of the rows is the Server Administrator Guide's, on filtered replicas.
use Rattle.std.specs.Prelude.{◌≡◌, ◌⊎◌, ℕ, ◌+◌, ◌-◌, ◌≤◌, ◌^◌, List, [], ◌++◌, length, take, codes}
use Rattle.outside_api.specs.declared.link.Fetched.{Fetched}
use Rattle.outside_api.specs.declared.link.Fetched.TheVariants as fetches
use Rattle.depot_rows.specs.db_records.declared.change.Change.{Change}
use Rattle.depot_rows.specs.db_records.declared.change.Op.{Op}
use Rattle.depot_rows.specs.db_records.declared.change.Op.TheVariants.{Replace}
use Rattle.depot_rows.specs.db_records.declared.record.Record.TheVariants.{Counter}
use Rattle.depot_rows.specs.depot_model.declared.filter.FilterRule.{FilterRule}
use Rattle.depot_rows.specs.table_changes.Changed.{AllRows, rows_of, changed_in, no_rows}
use Rattle.journal_groups.specs.Groups.{groups_text}
use Rattle.journal_groups.specs.Causes.{GoesOn}
use Rattle.journal_groups.specs.Reader.{State, BeginsAt}
use Rattle.journal_groups.specs.declared.moved.Moved.{Moved}
use Rattle.journal_groups.specs.declared.moved.Moved.TheVariants as moves
use Rattle.recovery.specs.Pieces.{AreAllGood}
use Rattle.replica_pull.specs.Feed.{Fit, AreTaken, IsBadFeed}
use Rattle.replica_pull.specs.declared.fault.PullFault.{PullFault}
use Rattle.replica_pull.specs.declared.fault.PullFault.TheVariants as faults
use Rattle.replica_pull.specs.declared.replica.Replica.{Replica}

-- what it keeps behind the whole groups, with some bytes more
abbrev pub with_piece : Replica → List ℕ → State
with_piece r piece = record { left = r.rest ++ piece; at = r.at - length r.rest; number = r.number; records = []; reached = r.at - length r.rest }

abbrev pub rest_of : Replica → State
rest_of r = record { left = r.rest; at = r.at - length r.rest; number = r.number; records = []; reached = r.at - length r.rest }

-- bytes may still become a group, and its records that are there fit
abbrev pub Waits : List FilterRule → AllRows → State → Type 0
Waits rules rows now = GoesOn now.number now.left × AreAllGood (Fit rules rows) (BeginsAt now.number now.at now.left)

-- nothing was taken yet
pub record IsNew (rules : List FilterRule) (r : Replica) : Type 0 where
  pub filter : r.filter ≡ rules
  pub rows : rows_of r.tables ≡ no_rows
  pub generation : r.generation ≡ 0
  pub at : r.at ≡ 0
  pub rest : r.rest ≡ []
  pub number : r.number ≡ 1
  pub taken : r.taken ≡ 0
  pub changes : r.changes ≡ 0

-- A piece of the generation's text was taken: the whole groups in the rest and the piece, so many, with their changes cut to the filter. The rest behind
-- them is kept.
pub record HasTakenPiece (old : Replica) (piece : List ℕ) (count : ℕ) (new : Replica) : Type 0 where
  pub filter : new.filter ≡ old.filter
  pub generation : new.generation ≡ old.generation
  pub at : new.at ≡ old.at + length piece
  pub taken : new.taken ≡ old.taken + length piece
  pub groups : List (List Change)
  pub count_is : count ≡ length groups
  pub are : AreTaken old.filter (with_piece old piece) (rows_of old.tables) groups (rest_of new) (rows_of new.tables)
  pub waits : Waits new.filter (rows_of new.tables) (rest_of new)
  pub changes : new.changes ≡ old.changes + count

-- the change with which a generation begins: the counter that tells it
abbrev pub telling : Op → ℕ → Change
telling op generation = record { op = op; row = Counter (record { name = codes "journal"; value = generation }) }

abbrev pub beginning : ℕ → Change
beginning generation = telling Replace generation

-- A generation was passed: the next one begins, and its counter is one change.
pub record HasPassed (old new : Replica) : Type 0 where
  pub filter : new.filter ≡ old.filter
  pub generation : new.generation ≡ old.generation + 1
  pub at : new.at ≡ 0
  pub rest : new.rest ≡ []
  pub number : new.number ≡ 1
  pub taken : new.taken ≡ old.taken
  pub changes : new.changes ≡ old.changes + 1
  pub rows : rows_of new.tables ≡ changed_in (rows_of old.tables) (beginning (old.generation + 1))

-- what a replica does with what was fetched
abbrev pub HasMoved : Replica → Replica → Fetched → List ℕ → Moved → Type 0
HasMoved old new (fetches.Bytes n) buffer (moves.Taken bytes changes) = (bytes ≡ n) × HasTakenPiece old (take n buffer) changes new
HasMoved old new fetches.End buffer moves.Nothing = new ≡ old
HasMoved old new fetches.Next buffer moves.Next = HasPassed old new
HasMoved old new _ buffer _ = ⊥

-- The place of a piece at which it can't be taken, or its end where the text would be too long.
abbrev pub IsBadPiece : Replica → List ℕ → ℕ → Type 0
IsBadPiece r piece place =
    IsBadFeed r.filter (with_piece r piece) (rows_of r.tables) place ⊎ ((2 ^ 63 ≤ r.taken + length piece) × (place ≡ r.at + length piece))

-- why it does nothing with what was fetched
abbrev pub IsStopped : Replica → Fetched → List ℕ → PullFault → Type 0
IsStopped r (fetches.Bytes n) buffer (faults.BadFeed place) = IsBadPiece r (take n buffer) place
IsStopped r fetches.Next buffer faults.NoGeneration = r.generation ≡ 4095
IsStopped r _ buffer faults.Memory = Unit {0}
IsStopped r _ buffer _ = ⊥

-- nothing was fetched
abbrev pub IsUnread : PullFault → Type 0
IsUnread faults.LinkFault = Unit {0}
IsUnread faults.Memory = Unit {0}
IsUnread _ = ⊥

-- What was taken of the generation is the front of this text: whole groups, and the rest behind them.
pub record IsOfText (r : Replica) (text : List ℕ) : Type 0 where
  pub groups : List (List Change)
  pub within : r.at ≤ length text
  pub is : take r.at text ≡ groups_text 1 groups ++ r.rest
  pub number : r.number ≡ 1 + length groups
