-- What each step makes of a seat's view, and what it tells. This project's own choice.
use Rattle.std.specs.Prelude.{◌≡◌, ℕ, ◌+◌, ◌≤◌, Bool, true, false, List, [], ◌∷◌, ◌++◌, length}
use mathlib.Core.Option.{some}
use mathlib.Core.List.{IsPrefix}
use Rattle.atomic_table.specs.Table.{Me, Step}
use Rattle.order_words.specs.declared.view.View.{View}
use Rattle.order_words.specs.declared.view.Role.{Role}
use Rattle.order_words.specs.declared.view.Role.TheVariants.{Order, Lane, Note, Spent}
use Rattle.order_words.specs.Lanes.{last_touch, is_among}
use Rattle.order_words.specs.Seats.{Run, OrderState, LaneState, NoteState, checked_with, longer}

-- ---- the parts of a role, and nothing where it has none
abbrev pub made_of : Role → ℕ
made_of (Order made checked) = made
made_of (Lane lane word resting) = 0
made_of (Note lane word) = 0
made_of Spent = 0

abbrev pub checked_of : Role → List ℕ
checked_of (Order made checked) = checked
checked_of (Lane lane word resting) = []
checked_of (Note lane word) = []
checked_of Spent = []

abbrev pub lane_of : Role → ℕ
lane_of (Order made checked) = 0
lane_of (Lane lane word resting) = lane
lane_of (Note lane word) = lane
lane_of Spent = 0

abbrev pub word_of : Role → ℕ
word_of (Order made checked) = 0
word_of (Lane lane word resting) = word
word_of (Note lane word) = word
word_of Spent = 0

abbrev pub resting_of : Role → Bool
resting_of (Order made checked) = false
resting_of (Lane lane word resting) = resting
resting_of (Note lane word) = false
resting_of Spent = false

-- the role of a seat that reads a note, behind so many places: for the order's seat the note's lane is checked where its word is the next place
abbrev pub role_told : ℕ → Role → Role → Role
role_told places (Order made checked) note = Order made (checked_with places (lane_of note) (word_of note) checked)
role_told places (Lane lane word resting) note = Lane lane word resting
role_told places (Note lane word) note = Note lane word
role_told places Spent note = Spent

-- ---- views
module _ {E : Type 0} where
  -- a view that was told nothing
  abbrev pub seen_as : List E → Role → View E
  seen_as list role = record { list = list; told = []; role = role }

  abbrev pub order_view : OrderState E → View E
  order_view s = seen_as s.list (Order s.made s.checked)

  abbrev pub lane_view : LaneState E → View E
  lane_view s = seen_as s.list (Lane s.lane s.word s.resting)

  abbrev pub note_view : NoteState E → View E
  note_view s = seen_as s.list (Note s.lane s.word)

  -- what clauses see of a seat of this view
  abbrev pub order_state : Run → View E → OrderState E
  order_state run v = record { run = run; list = v.list; made = made_of v.role; checked = checked_of v.role }

  abbrev pub lane_state : Run → View E → LaneState E
  lane_state run v = record { run = run; lane = lane_of v.role; list = v.list; word = word_of v.role; resting = resting_of v.role }

  abbrev pub note_state : Run → View E → NoteState E
  note_state run v = record { run = run; list = v.list; lane = lane_of v.role; word = word_of v.role }

  -- ---- splits and joins
  -- the order's seat with one more lane, and that lane's seat
  abbrev pub with_lane : View E → View E
  with_lane v = record { list = v.list; told = v.told; role = Order (made_of v.role + 1) (checked_of v.role) }

  abbrev pub new_lane : View E → View E
  new_lane v = seen_as [] (Lane (made_of v.role) 0 true)

  abbrev pub written_note : View E → View E
  written_note v = seen_as v.list (Note (lane_of v.role) (word_of v.role))

  -- a seat that reads a note keeps what it was told beside its list
  abbrev pub told_by : View E → View E → View E
  told_by v note = record { list = v.list; told = note.list; role = role_told (length v.list) v.role note.role }

  abbrev pub spent_note : View E
  spent_note = seen_as [] Spent

-- ---- steps on a word: of the step, the seat before, the number found or stored, and the seat after
module _ {E : Type 0} (lanes : E → ℕ) where
  abbrev Seat : Type 0
  Seat = Me E (View E)

  -- the order's seat keeps its list, which begins with what it was told
  abbrev pub LearnsOfOrder : Step E → Seat → ℕ → Seat → Type 0
  LearnsOfOrder st m n m' = (m' ≡ (seen_as m.0.list m.0.role, m.1)) × IsPrefix m.0.told m.0.list

  -- a lane's seat takes the longer of its list and what it was told, which both begin with. At rest no place behind its list touches its lane
  abbrev pub LearnsOfLane : Step E → Seat → ℕ → Seat → Type 0
  LearnsOfLane st m n m' =
      let list = longer m.0.list m.0.told in
      (m' ≡ (seen_as list m.0.role, m.1)) × IsPrefix m.0.list list × IsPrefix m.0.told list × (resting_of m.0.role ≡ true → last_touch lanes (lane_of m.0.role) list ≡ word_of m.0.role)

  -- the number stored is in the lane's word, and the seat isn't at rest
  abbrev pub Announces : Step E → Seat → ℕ → Seat → Type 0
  Announces st m n m' = m' ≡ (seen_as m.0.list (Lane (lane_of m.0.role) st.first false), m.1)

  -- the number found is that of a lane: no place behind it touches the lane
  abbrev pub Checks : Step E → Seat → ℕ → Seat → Type 0
  Checks st m n m' = (lane : ℕ) → st.word ≡ lane + 1 →
      (m' ≡ (seen_as m.0.list (Order (made_of m.0.role) (checked_with (length m.0.list) lane n (checked_of m.0.role))), m.1))
      × (last_touch lanes lane m.0.list ≤ n)
      × (n ≤ length m.0.list + 1)
      × (is_among lane (checked_of m.0.role) ≡ true → n ≡ length m.0.list + 1)

  -- the entry that the step says is the next place, for which no lane is checked any more
  abbrev pub Appends : Step E → Seat → ℕ → Seat → Type 0
  Appends st m n m' = (entry : E) → st.said ≡ some entry → m' ≡ (seen_as (m.0.list ++ entry ∷ []) (Order (made_of m.0.role) []), m.1)

  -- the seat is at rest, and the lane's word is the last place of its list that touches the lane
  abbrev pub Rests : Step E → Seat → ℕ → Seat → Type 0
  Rests st m n m' = (m' ≡ (seen_as m.0.list (Lane (lane_of m.0.role) (word_of m.0.role) true), m.1)) × (last_touch lanes (lane_of m.0.role) m.0.list ≡ word_of m.0.role)

  -- no place of the list behind the number found touches the lane, and of its own lane the seat finds what it knows
  abbrev pub Looks : Step E → Seat → ℕ → Seat → Type 0
  Looks st m n m' = (m' ≡ m) × ((lane : ℕ) → st.word ≡ lane + 1 → (last_touch lanes lane m.0.list ≤ n) × (lane ≡ lane_of m.0.role → n ≡ word_of m.0.role))
