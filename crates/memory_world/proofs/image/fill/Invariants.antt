use Rattle.std.proofs.Common.{◌≡◌, ◌<◌, ℕ, true, false, get_or}
use Rattle.memory_world.specs.Ranges.{is_in, open_below}
use Rattle.memory_world.proofs.image.fill.Given as goal

abbrev pub invariant-loop-place : goal.invariant-loop-place
invariant-loop-place l = record {
  used : l.used ≡ open_below (is_in l.ranges l.number) l.place;
  kept : (k : ℕ) → is_in l.ranges l.number k ≡ false → get_or l.bytes k 0 ≡ get_or l.initial.bytes k 0;
  picked : (k : ℕ) → k < l.place → is_in l.ranges l.number k ≡ true → get_or l.bytes k 0 ≡ get_or l.pick (open_below (is_in l.ranges l.number) k) 0;
}
