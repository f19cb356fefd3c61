-- What a command has before it is given its place. This project's own choice.
use Rattle.std.specs.Prelude.{◌≡◌, ◌⊎◌, ℕ, false, List, [], Bool, IfSome, IsTrue, None, Some, Option, Result, Ok, Err, filter}
use Rattle.std.specs.Sync.Mutex.{mutex_guard_value}
use Rattle.std.specs.declared.sync.MutexGuard.{MutexGuard}
use Rattle.command_needs.specs.declared.needs.Needs.{Needs}
use Rattle.depot_rows.specs.db_records.Table.{all_tables}
use Rattle.depot_rows.specs.depot_model.Deeds.{Deed}
use Rattle.depot_rows.specs.depot_model.Rules.{IsSound}
use Rattle.command_needs.specs.Sets.{AreOfWords}
use Rattle.depot_rows.specs.depot_model.declared.order.Answer.{Answer}
use Rattle.depot_rows.specs.depot_model.declared.request.Request.{Request}
use Rattle.locked_tables.specs.Known.{HasPlaceLeft, PartyKnown}
use Rattle.locked_tables.specs.Taken.{rows_after}
use Rattle.locked_tables.specs.declared.taken.Taken.{Taken}
use Rattle.outside_api.specs.Disk.{Files}
use Rattle.session_loop.specs.Taking.{IsProper}
use Rattle.depot_commit.specs.Telling.{IsTold}
use Rattle.depot_commit.specs.command_core.Outcomes.{HasNeeded, IsFormedBy, IsOutcome}
use Rattle.depot_commit.specs.command_core.declared.outcome.Outcome.{Outcome}
use Rattle.depot_commit.specs.declared.telling.Told.{Told}
use Rattle.depot_rows.specs.table_changes.Changed.{AllFitIn, AllRows, rows_of}
use Rattle.table_locks.specs.Confirmed.{IsConfirmed}
use Rattle.table_locks.specs.Gathered.{Covers, IsShown, tables_held}
use Rattle.table_locks.specs.Prepared.{are_held}
use Rattle.table_locks.specs.Ways.{holds_table}
use Rattle.table_locks.specs.declared.gathered.Gathered.{Gathered}
use Rattle.shared_depot.specs.Room.{HoldsEnd, IsAtOrder, IsDueAfter, IsToldAfter}
use Rattle.shared_depot.specs.Sharing.{IsTakenAt}
use Rattle.shared_depot.specs.declared.unplaced.Unplaced.{Unplaced}
use Rattle.shared_depot.specs.declared.unplaced.Unplaced.TheVariants as unplaced
use Rattle.shared_depot.specs.declared.reading.Reading.{Reading}
use Rattle.shared_depot.specs.declared.reading.Reading.TheVariants as readings
use Rattle.shared_depot.specs.declared.settling.Settled.{Settled}

-- a command may be given a place of a party: it is the party's, which may have one more
pub record MayTake (places : ℕ → ℕ) (begins : ℕ → List Deed → Type 0) (pass : PartyKnown) (request : Request) : Type 0 where
  pub room : HasPlaceLeft places pass
  pub party : request.party ≡ pass.party
  pub proper : (since : ℕ) (start : List Deed) → begins since start → IsProper request

-- a command is asked, and may be given a place of the party
pub record IsAsked (places : ℕ → ℕ) (begins : ℕ → List Deed → Type 0) (pass : PartyKnown) (asked : Option Request) : Type 0 where
  pub request : Request
  pub is : asked ≡ Some request
  pub may : MayTake places begins pass request

-- What became of an attempt: the command that is asked has its place; it was overtaken, and all is as it was; or no memory was left, and the party knows what it knew.
abbrev pub IsTried : (ℕ → List Deed → Type 0) → PartyKnown → PartyKnown → Option Request → Option Request → Result Answer Unplaced → Type 0
IsTried begins old new asked left (Ok answer) = IfSome asked (λ request. IsTakenAt begins old new request answer)
IsTried begins old new asked left (Err unplaced.Overtaken) = (new ≡ old) × (left ≡ asked)
IsTried begins old new asked left (Err unplaced.Memory) = new ≡ old

-- the reply to a command is printed, with all contents that it waits for, and the command has no place yet
pub record IsPrinted (old new : PartyKnown) (asked left : Option Request) (outcome : Outcome) (number : ℕ) (told : Told) : Type 0 where
  pub tells : IsTold outcome number told
  pub read : told.unread ≡ false
  pub same : new ≡ old
  pub kept : left ≡ asked

-- so it is, or the command that was asked has its place
abbrev pub IsReadingOf : (ℕ → List Deed → Type 0) → PartyKnown → PartyKnown → Option Request → Option Request → Outcome → ℕ → Reading → Type 0
IsReadingOf begins old new asked left outcome number (readings.Told told) = IsPrinted old new asked left outcome number told
IsReadingOf begins old new asked left outcome number (readings.Placed answer) = IfSome asked (λ request. IsTakenAt begins old new request answer)

-- this holds of what is told, if it is
abbrev pub IfTold : (Told → Type 0) → Reading → Type 0
IfTold P (readings.Told told) = P told
IfTold P (readings.Placed answer) = Unit {0}

-- What is printed is the reply as far as the contents of the places go that are known behind the lock of the archive; without that lock, as far as those of any
-- order do. Where it was known behind the lock where the archive ends, it still is.
pub record IsReplyOver (end : ℕ) (images : Files → Type 0) (begins : ℕ → List Deed → Type 0) (before after : Option (MutexGuard (List Taken))) (outcome : Outcome) (number : ℕ) (told : Told) : Type 0 where
  pub reply : (request : Request) (order : List Taken) → request.number ≡ number → IfSome after (λ guard. order ≡ mutex_guard_value guard) → IsToldAfter end images begins order request outcome told
  pub ends : (used : ℕ) → HoldsEnd end used before → HoldsEnd end used after

module _ {N : Type 0} where
  -- the set of a request is gathered as its needs ask for it; where the whole set is held, no table is only looked at
  pub record IsGatheredFor (rows : AllRows) (whole : Bool) (needs : Needs) (gathered : Gathered N) : Type 0 where
    pub shown : IsShown rows gathered
    pub held : tables_held gathered ≡ filter (holds_table whole needs) all_tables
    pub alone : IsTrue whole → gathered.peeks.items ≡ []
    pub covers : (request : Request) → AreOfWords request.command needs → Covers gathered request

  -- What is told is an outcome of a request that was found over its gathered set, which it fits, and so is its reply, as far as the contents of the places go that
  -- are known behind the lock of the archive; without that lock, as far as those of any order do. Each content was read; where contents are stored, it was seen
  -- behind that lock where the archive ends.
  pub record IsToldOver (rows : AllRows) (end : ℕ) (images : Files → Type 0) (begins : ℕ → List Deed → Type 0) (gathered : Gathered N) (archive : Option (MutexGuard (List Taken))) (told : Told) (request : Request) : Type 0 where
    pub whole : Bool
    pub needs : Needs
    pub set : IsGatheredFor rows whole needs gathered
    pub words : AreOfWords request.command needs
    pub proper : (since : ℕ) (start : List Deed) → begins since start → IsProper request
    pub outcome : Outcome
    pub tells : IsTold outcome request.number told
    pub found : (d : List Deed) → IsSound d → IsFormedBy request → HasNeeded (rows_of gathered.tables) d request → IsOutcome (rows_of gathered.tables) gathered.tables.archive_end d request outcome
    pub reply : (order : List Taken) → IfSome archive (λ guard. order ≡ mutex_guard_value guard) → IsToldAfter end images begins order request outcome told
    pub fit : AllFitIn (rows_of gathered.tables) told.changes
    pub read : told.unread ≡ false
    pub ends : (told.stores ≡ []) ⊎ HoldsEnd end gathered.tables.archive_end archive

module _ {D N : Type 0} where
  -- What is told of a request is due after an order, and each content was read. The tables of its changes are held, which fit there, and know the order. So does
  -- the archive, if its lock is still held; it was given back only where nothing is stored.
  pub record IsSettled (rows : AllRows) (end : ℕ) (images : Files → Type 0) (begins : ℕ → List Deed → Type 0) (order : List Taken) (request : Request) (settled : Settled D N) : Type 0 where
    pub gathered : Gathered N
    pub confirmed : IsConfirmed rows order gathered settled.confirmed
    pub held : IsTrue (are_held settled.confirmed.held.items settled.told.changes)
    pub fit : AllFitIn (rows_after rows order) settled.told.changes
    pub read : settled.told.unread ≡ false
    pub due : IsDueAfter rows end images begins order request settled.told
    pub archive : IsAtOrder order settled.archive
    pub without : settled.archive ≡ None → settled.told.stores ≡ []
