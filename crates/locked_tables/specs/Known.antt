-- What is known behind each lock. This project's own choice.
use Rattle.std.specs.Prelude.{◌≡◌, ◌<◌, ℕ, zero, suc, ◌+◌, Bool, true, false, List, ◌++◌, length, nat_lt, slice_index_or}
use Rattle.std.specs.List.{AllByRecursion}
use mathlib.Core.List.{IsPrefix}
use Rattle.depot_model.specs.db_records.Table.{table_number}
use Rattle.depot_model.specs.db_records.declared.table.TableId.{TableId}
use Rattle.order_words.specs.Lanes.{has_lane, last_touch}
use Rattle.order_words.specs.Seats.{Run, LaneState, fresh_lane}
use Rattle.table_changes.specs.Changed.{AllRows}
use Rattle.locked_tables.specs.Taken.{archive_lane, lanes_of, of_party, rows_after}
use Rattle.locked_tables.specs.declared.taken.Taken.{Taken}

-- the seat of a lane at rest: the lane's word is the last place of its list that touches the lane
abbrev pub at_rest : Run → ℕ → List Taken → LaneState Taken
at_rest run lane list = record { run = run; lane = lane; list = list; word = last_touch lanes_of lane list; resting = true }

-- the seat of the lane of a table, where no place is yet
abbrev pub IsSeatOfTable : Run → LaneState Taken → Type 0
IsSeatOfTable run seat = (seat.lane < archive_lane) × (seat ≡ fresh_lane run seat.lane)

-- a table, and a beginning of the order
pub record TableKnown : Type 0 where
  pub table : TableId
  pub list : List Taken

-- a party, and a beginning of the order
pub record PartyKnown : Type 0 where
  pub party : ℕ
  pub list : List Taken

-- how many places parties may have, from 1 up to a number
abbrev pub all_places : (ℕ → ℕ) → ℕ → ℕ
all_places places zero = 0
all_places places (suc n) = all_places places n + places (suc n)

-- a party may have one more place
abbrev pub HasPlaceLeft : (ℕ → ℕ) → PartyKnown → Type 0
HasPlaceLeft places known = length (of_party known.party known.list) < places known.party

-- a list begins the order, and no place behind it touches the lane
pub record KnowsLane (lane : ℕ) (known order : List Taken) : Type 0 where
  pub begins : IsPrefix known order
  pub last : last_touch lanes_of lane order ≡ last_touch lanes_of lane known

-- a list begins the order, and no place behind it touches the lane, place by place
pub record GoesOnWithout (lane : ℕ) (known order : List Taken) : Type 0 where
  pub behind : List Taken
  pub parts : order ≡ known ++ behind
  pub untouched : AllByRecursion (λ taken. has_lane taken.lanes lane ≡ false) behind

-- what was known of a lane begins the order before a place, of which none behind it touches the lane, and all places after it are known now
pub record LearnsPlace (lane : ℕ) (before after old new : List Taken) : Type 0 where
  pub behind : GoesOnWithout lane old before
  pub learnt : new ≡ after

-- a table is after all entries as it was after those of a list
abbrev pub IsStill : AllRows → List Taken → TableKnown → Type 0
IsStill rows order known = rows_after rows order known.table ≡ rows_after rows known.list known.table

-- by its number, the last place that touched each table
abbrev pub HaveLastTouches : List ℕ → List Taken → Type 0
HaveLastTouches touched order = (table : TableId) → slice_index_or touched (table_number table) 0 ≡ last_touch lanes_of (table_number table) order

-- a place behind those that are known touches the table
abbrev pub is_touched : List Taken → TableKnown → Bool
is_touched order known = nat_lt (length known.list) (last_touch lanes_of (table_number known.table) order)
