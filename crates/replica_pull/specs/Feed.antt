-- What a replica takes of its master's journal: whole groups, whose changes it makes cut to its filter. A rest is kept until more comes. That it is so is
-- this project's own choice.
use Rattle.std.specs.Prelude.{◌≡◌, ◌≢◌, ◌⊎◌, ℕ, ◌+◌, ◌-◌, Bool, true, false, List, [], ◌∷◌, ◌++◌, length, Option, Some, None, Result, Err}
use Rattle.std.specs.List.{AllByRecursion}
use Rattle.depot_rows.specs.db_records.declared.change.Change.{Change}
use Rattle.depot_rows.specs.table_changes.Changed.{AllRows, FitsIn, AllFitIn, changed_in, changed_by}
use Rattle.depot_rows.specs.depot_model.declared.filter.FilterRule.{FilterRule}
use Rattle.journal_groups.specs.Groups.{IsGroup, groups_text, mark, open_byte}
use Rattle.journal_groups.specs.Causes.{GoesOn, StopsAt}
use Rattle.journal_groups.specs.Reader.{State, BeginsAt, HasRecords, HasTaken, IsLeft}
use Rattle.recovery.specs.Holding.{joined}
use Rattle.recovery.specs.Pieces.{IsFirstBad, IsBadRecord, AreAllGood}
use Rattle.replica_pull.specs.Cut.{cut_changes}
use Rattle.replica_pull.specs.declared.fault.PullFault.{PullFault}
use Rattle.replica_pull.specs.declared.fault.PullFault.TheVariants.{BadFeed, Memory}

-- changes, cut, fit one after another
abbrev pub Fit : List FilterRule → AllRows → List Change → Type 0
Fit rules rows changes = AllFitIn rows (cut_changes rules changes)

-- the rows after changes that are cut
abbrev pub changed_cut : List FilterRule → AllRows → List Change → AllRows
changed_cut rules rows changes = changed_by rows (cut_changes rules changes)

-- a change was made, or it doesn't fit
abbrev pub HasMadeOne : AllRows → AllRows → Change → Bool → Type 0
HasMadeOne old new c true = FitsIn old c × (new ≡ changed_in old c)
HasMadeOne old new c false = (FitsIn old c → ⊥) × (new ≡ old)

-- the same of a change that is cut
abbrev pub HasMade : List FilterRule → AllRows → AllRows → Change → Bool → Type 0
HasMade rules old new c true = Fit rules old (c ∷ []) × (new ≡ changed_cut rules old (c ∷ []))
HasMade rules old new c false = (Fit rules old (c ∷ []) → ⊥) × (new ≡ old)

-- ---- what is taken

-- Groups were taken from the front of what a reader has left, and their changes were made.
pub record AreTaken (rules : List FilterRule) (old : State) (before : AllRows) (groups : List (List Change)) (new : State) (after : AllRows) : Type 0 where
  pub are_groups : AllByRecursion IsGroup groups
  pub text : old.left ≡ groups_text old.number groups ++ new.left
  pub number : new.number ≡ old.number + length groups
  pub place : new.at + length new.left ≡ old.at + length old.left
  pub fit : Fit rules before (joined groups)
  pub rows : after ≡ changed_cut rules before (joined groups)

-- the next group was taken; or it may still come, and these are all of its records that are there
abbrev pub IsNextOf : State → State → Option (List Change) → Type 0
IsNextOf old new (Some changes) = HasTaken old new (Some changes)
IsNextOf old new None = IsLeft old new × GoesOn old.number old.left × HasRecords old.number old.at old.left new.records new.reached

-- ---- why nothing more can be taken

-- the text begins with a mark that isn't open
pub record IsClosedMark (text : List ℕ) : Type 0 where
  pub byte : ℕ
  pub behind : List ℕ
  pub closed : byte ≢ open_byte
  pub is : text ≡ mark byte ++ behind

-- The first place of what is left at which it can't be taken: that of a record of the next group that isn't good; or where there is none, of the byte from
-- which no text goes on, or of the byte with which a mark isn't open.
abbrev pub IsBadPlace : (List Change → Type 0) → State → ℕ → Type 0
IsBadPlace good now place =
    IsBadRecord good (BeginsAt now.number now.at now.left) place
    ⊎ ((AreAllGood good (BeginsAt now.number now.at now.left) × StopsAt now.number now.left ((now.at + length now.left) - place))
    ⊎ (IsClosedMark now.left × (place ≡ now.at + 1)))

-- behind groups that are taken stands what can't be
pub record IsBadFeed (rules : List FilterRule) (old : State) (before : AllRows) (place : ℕ) : Type 0 where
  pub groups : List (List Change)
  pub now : State
  pub rows : AllRows
  pub taken : AreTaken rules old before groups now rows
  pub bad : IsBadPlace (Fit rules rows) now place

-- the first of these changes, which end at a place, that isn't good
abbrev pub IsFirstMisfit : (List Change → Type 0) → List Change → ℕ → ℕ → Type 0
IsFirstMisfit good changes end place = (left : ℕ) × ((place ≡ end - left) × IsFirstBad good changes left)

-- ---- faults

-- what holds of the place that a bad feed tells
abbrev pub IfBadFeed : {X : Type 0} → Result X PullFault → (ℕ → Type 0) → Type 0
IfBadFeed (Err (BadFeed place)) P = P place
IfBadFeed _ P = Unit {0}

-- a fault is of the feed, or want of memory
abbrev pub IsOfFeed : PullFault → Type 0
IsOfFeed (BadFeed place) = Unit {0}
IsOfFeed Memory = Unit {0}
IsOfFeed _ = ⊥
