-- How an entry gets its place. This project's own choice.
use Rattle.std.specs.Prelude.{◌≡◌, ◌≤◌, ◌<◌, ◌+◌, ◌-◌, ◌^◌, ◌++◌, ◌||◌, ℕ, Bool, true, false, List, [], ◌∷◌, length}
use Rattle.std.specs.List.{AllByRecursion}
use mathlib.Core.List.{IsPrefix}
use Rattle.order_words.specs.Lanes.{has_lane, is_among, last_touch}
use Rattle.order_words.specs.Seats.{LaneState, OrderState, Run}
use Rattle.table_changes.specs.Changed.{AllRows}
use Rattle.locked_tables.specs.Held.{AllNext, AreAmong}
use Rattle.locked_tables.specs.Known.{HasPlaceLeft, PartyKnown}
use Rattle.locked_tables.specs.Taken.{IsOwn, IsParty, TouchesItsParty, archive_lane, journal_lane, lanes_of, party_lane}
use Rattle.locked_tables.specs.declared.held_table.HeldTable.{HeldTable}
use Rattle.locked_tables.specs.declared.taken.Taken.{Taken}

-- The seat of the order of a run can take one more place, for which these lanes are checked, and of the parties' lanes each entry touches that of its own party alone.
pub record IsReadyFor (run : Run) (lanes : ℕ) (order : OrderState Taken) : Type 0 where
  pub of_run : order.run ≡ run
  pub room : length order.list < 2 ^ 64 - 1
  pub parties : AllByRecursion (TouchesItsParty run) order.list
  pub checked : AreAmong lanes order.checked

-- these lanes and more are all
pub record AddsLanes (lanes : ℕ) (more : List ℕ) (all : ℕ) : Type 0 where
  pub are : (lane : ℕ) → has_lane all lane ≡ (has_lane lanes lane || is_among lane more)

-- The next place is announced for the lane of a seat, which is checked, and is one of the lanes that the place touches. The seat knows the whole order: no place that it didn't know touches its lane.
pub record IsAnnounced (lanes all : ℕ) (before after : OrderState Taken) (old new : LaneState Taken) : Type 0 where
  pub order : after ≡ record before { checked = old.lane ∷ before.checked }
  pub seat : new ≡ record old { list = before.list; word = length before.list + 1; resting = false }
  pub begins : IsPrefix old.list before.list
  pub last : last_touch lanes_of old.lane before.list ≡ old.word
  pub adds : AddsLanes lanes (old.lane ∷ []) all

-- a lane that is held, or none
abbrev pub lane_where : Bool → ℕ → List ℕ
lane_where true lane = lane ∷ []
lane_where false lane = []

-- of the archive's lane and the journal's those that are held
abbrev pub lanes_held : Bool → Bool → List ℕ
lanes_held archive journal = lane_where archive archive_lane ++ lane_where journal journal_lane

-- no lane behind those of the tables is among these
abbrev pub AreOfTables : List ℕ → Type 0
AreOfTables lanes = (lane : ℕ) → archive_lane ≤ lane → is_among lane lanes ≡ false

-- the lanes that an entry touches: of those of the archive and of the journal the ones that are held, that of a party of the run, and those of tables
pub record TouchesLanes (run : Run) (entry : Taken) (archive journal : Bool) (party : ℕ) (tables : List ℕ) : Type 0 where
  pub of_run : IsParty run party
  pub below : AreOfTables tables
  pub are : AddsLanes 0 (lanes_held archive journal ++ party_lane party ∷ tables) entry.lanes

module _ {N : Type 0} where
  -- An entry of a party can be given a place: the party may have one more, and each version that is to follow is its table after the changes.
  pub record CanPlace (rows : AllRows) (places : ℕ → ℕ) (held : List (HeldTable N)) (pass : PartyKnown) (taken : Taken) : Type 0 where
    pub left : HasPlaceLeft places pass
    pub asks : taken.request.party ≡ pass.party
    pub next : AllNext rows taken.changes held

-- An entry has the next place behind an order. The party knows all places, and of its own has just that one more.
pub record TakesPlace (before after : List Taken) (old new : PartyKnown) (entry : Taken) : Type 0 where
  pub last : after ≡ before ++ entry ∷ []
  pub pass : new ≡ record old { list = after }
  pub own : IsOwn old.party old.list before after

-- An entry has the next place, for which no lane is checked any more. The party knows all places, and of its own has just that one more.
pub record IsPlaced (run : Run) (before after : OrderState Taken) (old new : PartyKnown) (entry : Taken) : Type 0 where
  pub order : after ≡ record before { list = before.list ++ entry ∷ []; checked = [] }
  pub pass : new ≡ record old { list = after.list }
  pub own : IsOwn old.party old.list before.list after.list
  pub party : IsParty run old.party
