use Rattle.std.proofs.Common.{◌≡◌, ◌++◌, ◌-◌, drop, length, take}
use Rattle.std.specs.Prelude.{option_map}
use Rattle.history_query.specs.Leaping.{directory_at, front_before}
use Rattle.history_query.proofs.leaping.end_of.Given as goal

abbrev pub invariant-loop-end : goal.invariant-loop-end
invariant-loop-end l = option_map (λ front. take l.end l.path ++ front) (front_before l.left (drop l.end l.path)) ≡ directory_at l.depth l.path

abbrev pub decreases-loop-end : goal.decreases-loop-end
decreases-loop-end l = length l.path - l.end
