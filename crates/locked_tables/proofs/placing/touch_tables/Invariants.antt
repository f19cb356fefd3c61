use Rattle.std.proofs.Common.{◌≡◌, ◌<◌, ◌&&◌, ℕ, nat_lt, slice_index_or}
use Rattle.std.specs.Prelude.{if◌then◌else◌}
use Rattle.order_words.specs.Lanes.{has_lane}
use Rattle.locked_tables.proofs.placing.touch_tables.Given as goal

-- those below the number are noted
abbrev pub invariant-loop-number : goal.invariant-loop-number
invariant-loop-number l = (n : ℕ) → n < 11 → slice_index_or l.touched n 0 ≡ (if nat_lt n l.number && has_lane l.lanes n then l.place else slice_index_or l.fn.touched n 0)
