-- The lane rule: what holds of the words and of all seats between any two steps. This project's own choice.
-- Word 0 is the number of places, and word i + 1 names the last place that touched lane i. While a lane is announced, its word is the next place already.
use Rattle.std.specs.Prelude.{◌≡◌, ℕ, ◌+◌, ◌≤◌, true, List, [], length, slice_index}
use mathlib.Core.Option.{some}
use mathlib.Core.List.{IsPrefix}
use lib.ListN.{get_elem?}
use Rattle.order_words.specs.declared.view.View.{View}
use Rattle.order_words.specs.declared.view.Role.{Role}
use Rattle.order_words.specs.declared.view.Role.TheVariants.{Order, Lane, Note, Spent}
use Rattle.order_words.specs.Lanes.{last_touch, is_among}

abbrev pub lane_word : List ℕ → ℕ → ℕ
lane_word words lane = slice_index words (lane + 1)

abbrev pub IsOrderRole : Role → Type 0
IsOrderRole (Order made checked) = Unit {0}
IsOrderRole (Lane lane word resting) = ⊥
IsOrderRole (Note lane word) = ⊥
IsOrderRole Spent = ⊥

abbrev pub IsLaneRole : ℕ → Role → Type 0
IsLaneRole i (Order made checked) = ⊥
IsLaneRole i (Lane lane word resting) = lane ≡ i
IsLaneRole i (Note lane word) = ⊥
IsLaneRole i Spent = ⊥

module _ {E : Type 0} (lanes : E → ℕ) where
  -- what holds of the seat of this number and list, by its role: `seats` has the number of the seat of each lane that is made, and `keeper` is that of the order's seat
  module _ (words : List ℕ) (order : List E) (seats : List ℕ) (keeper seat : ℕ) (list : List E) where
    abbrev pub IsTrueOfRole : Role → Type 0
    -- it is the one seat of the order and knows all of it, and each lane that it has checked is announced for the next place
    IsTrueOfRole (Order made checked) = (seat ≡ keeper) × (list ≡ order) × (made ≡ length seats) × ((lane : ℕ) → is_among lane checked ≡ true → lane_word words lane ≡ length order + 1)
    -- it is the one seat of its lane and knows the lane's word, which at rest is the last place of its list that touches the lane
    IsTrueOfRole (Lane lane word resting) = (get_elem? seats lane ≡ some seat) × (lane_word words lane ≡ word) × (resting ≡ true → last_touch lanes lane list ≡ word)
    -- no lane's word falls
    IsTrueOfRole (Note lane word) = word ≤ lane_word words lane
    IsTrueOfRole Spent = Unit {0}

  pub record ObeysLaneRule (count : ℕ) (words : List ℕ) (views : List (View E)) : Type 0 where
    pub order : List E
    pub seats : List ℕ
    pub keeper : ℕ
    pub wide : length words ≡ count + 1
    pub made : length seats ≤ count
    -- word 0 counts the places
    pub counted : slice_index words 0 ≡ length order
    -- a lane's word is no less than the last place that touches the lane, and no more than the next place
    pub low : (lane : ℕ) → last_touch lanes lane order ≤ lane_word words lane
    pub high : (lane : ℕ) → lane_word words lane ≤ length order + 1
    -- a lane that isn't made has the word 0
    pub unmade : (lane : ℕ) → length seats ≤ lane → lane_word words lane ≡ 0
    -- the order has a seat, and so has each lane that is made
    pub kept_by : (v : View E) × (get_elem? views keeper ≡ some v) × IsOrderRole v.role
    pub each_lane : (lane seat : ℕ) → get_elem? seats lane ≡ some seat → (v : View E) × (get_elem? views seat ≡ some v) × IsLaneRole lane v.role
    -- what each seat knows or was told begins the order
    pub each_seat : (seat : ℕ) (v : View E) → get_elem? views seat ≡ some v → IsPrefix v.list order × IsPrefix v.told order × IsTrueOfRole words order seats keeper seat v.list v.role

-- the first seat is that of the order
abbrev pub first_view : {E : Type 0} → View E
first_view = record { list = []; told = []; role = Order 0 [] }
