-- Worked values of the definitions. An entry is the bits of its lanes.
use Rattle.std.specs.Prelude.{◌≡◌, ℕ, ◌∷◌, [], true, false, refl}
use Rattle.order_words.specs.Lanes.{has_lane, last_touch, is_among}
use Rattle.order_words.specs.Seats.{checked_with, longer}

abbrev bits : ℕ → ℕ
bits lanes = lanes

-- 5 has the lanes 0 and 2
lane_in : has_lane 5 2 ≡ true
lane_in = refl

lane_out : has_lane 5 1 ≡ false
lane_out = refl

-- of the places 1 to 4, the lane 0 is touched by 1 and 3, the lane 1 by 2 and 3, the lane 2 by 4
first_lane : last_touch bits 0 (1 ∷ 2 ∷ 3 ∷ 4 ∷ []) ≡ 3
first_lane = refl

second_lane : last_touch bits 1 (1 ∷ 2 ∷ 3 ∷ 4 ∷ []) ≡ 3
second_lane = refl

third_lane : last_touch bits 2 (1 ∷ 2 ∷ 3 ∷ 4 ∷ []) ≡ 4
third_lane = refl

untouched_lane : last_touch bits 3 (1 ∷ 2 ∷ 3 ∷ 4 ∷ []) ≡ 0
untouched_lane = refl

among : is_among 2 (3 ∷ 2 ∷ []) ≡ true
among = refl

not_among : is_among 1 (3 ∷ 2 ∷ []) ≡ false
not_among = refl

-- behind 4 places, the word 5 checks the lane and the word 4 doesn't
checks : checked_with 4 2 5 (0 ∷ []) ≡ 2 ∷ 0 ∷ []
checks = refl

checks_not : checked_with 4 2 4 (0 ∷ []) ≡ 0 ∷ []
checks_not = refl

longer_first : longer {E = ℕ} (1 ∷ 2 ∷ []) (1 ∷ []) ≡ 1 ∷ 2 ∷ []
longer_first = refl

longer_second : longer {E = ℕ} (1 ∷ []) (1 ∷ 2 ∷ []) ≡ 1 ∷ 2 ∷ []
longer_second = refl
