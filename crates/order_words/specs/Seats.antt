-- What clauses see of seats and notes. This project's own choice.
use Rattle.std.specs.Prelude.{ℕ, zero, suc, ◌+◌, ◌-◌, ◌==◌, nat_lt, Bool, true, List, [], ◌∷◌, ◌++◌, length, if◌then◌else◌}
use base.Stored.{Coded, coded×, coded_ℕ, coded_bool, coded_list, coded_via}
use Rattle.atomic_table.specs.Seated.{TableId, table_id_coded}

-- which words a seat is of
abbrev pub Run : Type 0
Run = TableId

-- a name that no words have
abbrev pub no_run : Run
no_run = record { words = 0; slots = 0; views_name = 0; atom = 0; block = 0; offset = 0; slot_names = [] }

-- how many lanes they have words for
abbrev pub lane_count : Run → ℕ
lane_count run = run.words - 1

-- the order's seat: the whole order, how many lanes are made, and which are checked for the next place
pub record OrderState (E : Type 0) : Type 0 where
  pub run : Run
  pub list : List E
  pub made : ℕ
  pub checked : List ℕ

-- a lane's seat: a beginning of the order, the number in the lane's word, and whether the seat is at rest
pub record LaneState (E : Type 0) : Type 0 where
  pub run : Run
  pub lane : ℕ
  pub list : List E
  pub word : ℕ
  pub resting : Bool

-- a note: a beginning of the order, and the number that a lane's word had when the lane's seat gave the note
pub record NoteState (E : Type 0) : Type 0 where
  pub run : Run
  pub list : List E
  pub lane : ℕ
  pub word : ℕ

abbrev pub order_coded : {E : Type 0} → Coded E → Coded (OrderState E)
order_coded {E} c = coded_via (coded× table_id_coded (coded× (coded_list c) (coded× coded_ℕ (coded_list coded_ℕ)))) (λ (s : OrderState E). (s.run, (s.list, (s.made, s.checked)))) (λ x y e i. record { run = (e i).0; list = (e i).1.0; made = (e i).1.1.0; checked = (e i).1.1.1 })

abbrev pub lane_coded : {E : Type 0} → Coded E → Coded (LaneState E)
lane_coded {E} c = coded_via (coded× table_id_coded (coded× coded_ℕ (coded× (coded_list c) (coded× coded_ℕ coded_bool)))) (λ (s : LaneState E). (s.run, (s.lane, (s.list, (s.word, s.resting))))) (λ x y e i. record { run = (e i).0; lane = (e i).1.0; list = (e i).1.1.0; word = (e i).1.1.1.0; resting = (e i).1.1.1.1 })

abbrev pub note_coded : {E : Type 0} → Coded E → Coded (NoteState E)
note_coded {E} c = coded_via (coded× table_id_coded (coded× (coded_list c) (coded× coded_ℕ coded_ℕ))) (λ (s : NoteState E). (s.run, (s.list, (s.lane, s.word)))) (λ x y e i. record { run = (e i).0; list = (e i).1.0; lane = (e i).1.1.0; word = (e i).1.1.1 })

-- the order's seat where no place is yet
abbrev pub fresh_order : {E : Type 0} → Run → ℕ → OrderState E
fresh_order run made = record { run = run; list = []; made = made; checked = [] }

-- a lane's seat where no place is yet
abbrev pub fresh_lane : {E : Type 0} → Run → ℕ → LaneState E
fresh_lane run lane = record { run = run; lane = lane; list = []; word = 0; resting = true }

-- those of the lanes below a number, in rising order
abbrev pub fresh_lanes : {E : Type 0} → Run → ℕ → List (LaneState E)
fresh_lanes run zero = []
fresh_lanes run (suc n) = fresh_lanes run n ++ fresh_lane run n ∷ []

-- what the order's seat writes down: it says nothing of a word
abbrev pub order_note : {E : Type 0} → OrderState E → NoteState E
order_note s = record { run = s.run; list = s.list; lane = 0; word = 0 }

-- what a lane's seat writes down
abbrev pub lane_note : {E : Type 0} → LaneState E → NoteState E
lane_note s = record { run = s.run; list = s.list; lane = s.lane; word = s.word }

-- the lanes that are checked once a lane's word is known, behind so many places: that lane too where its word is the next place
abbrev pub checked_with : ℕ → ℕ → ℕ → List ℕ → List ℕ
checked_with places lane word checked = if word == places + 1 then lane ∷ checked else checked

-- the second where it is longer, and else the first
abbrev pub longer : {E : Type 0} → List E → List E → List E
longer xs ys = if nat_lt (length xs) (length ys) then ys else xs
