-- What is known behind the lock, and what each party knows. This project's own choice.
use Rattle.std.specs.Prelude.{◌≡◌, ℕ, ◌-◌, ◌^◌, true, List, [], ◌∷◌, ◌++◌, length}
use Rattle.order_words.specs.Lanes.{last_touch}
use Rattle.order_words.specs.Seats.{Run, LaneState}
use Rattle.party_marks.specs.Marks.{lanes_of, mark_lane}
use Rattle.party_marks.specs.declared.mark.Mark.{Mark}

-- the whole list, and how many more marks there is room for
pub record MarksKnown : Type 0 where
  pub list : List Mark
  pub room : ℕ

-- a party, and a beginning of the list
pub record PassKnown : Type 0 where
  pub party : ℕ
  pub list : List Mark

-- how many marks there is room for behind a list: all are counted by a word of 64 bits
abbrev pub room_behind : List Mark → ℕ
room_behind list = 2 ^ 64 - 1 - length list

-- one more mark, for which there was room
abbrev pub with_mark : MarksKnown → Mark → MarksKnown
with_mark known mark = record { list = known.list ++ mark ∷ []; room = known.room - 1 }

-- a seat is that of a party's lane, at rest: the lane's word is the last place of its list that touches the lane
pub record IsSeatOf (words : Run) (party : ℕ) (seat : LaneState Mark) : Type 0 where
  pub run : seat.run ≡ words
  pub lane : seat.lane ≡ mark_lane party
  pub rests : seat.resting ≡ true
  pub last : last_touch lanes_of (mark_lane party) seat.list ≡ seat.word
