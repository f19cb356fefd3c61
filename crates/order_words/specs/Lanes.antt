-- Which lanes an entry touches, and the last place that touched a lane. This project's own choice.
use Rattle.std.specs.Prelude.{ℕ, zero, suc, ◌==◌, Bool, true, false, List, [], ◌∷◌, ◌||◌}
use Rattle.std.specs.Int.{bit_at}

-- lane i is bit i
abbrev pub has_lane : ℕ → ℕ → Bool
has_lane lanes lane = bit_at lanes lane == 1

-- the last place that touches a lane, of a list with one more entry in front: whether that entry touches it, and the last place of the others
abbrev pub last_with_first : Bool → ℕ → ℕ
last_with_first true zero = 1
last_with_first false zero = 0
last_with_first touches (suc place) = suc (suc place)

-- the last place that touches the lane, counted from 1, and 0 where none does
abbrev pub last_touch : {E : Type 0} → (E → ℕ) → ℕ → List E → ℕ
last_touch lanes lane [] = 0
last_touch lanes lane (e ∷ es) = last_with_first (has_lane (lanes e) lane) (last_touch lanes lane es)

-- the number is among them
abbrev pub is_among : ℕ → List ℕ → Bool
is_among n [] = false
is_among n (k ∷ ks) = (n == k) || is_among n ks
