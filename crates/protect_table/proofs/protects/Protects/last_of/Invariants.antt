use Rattle.std.proofs.Common.{◌≡◌, ◌<◌, ◌≤◌, ℕ, length, get_or}
use Rattle.std.specs.Prelude.{None}
use Rattle.protect_table.specs.Numbers.{said_at}
use Rattle.protect_table.proofs.protects.Protects.last_of.Given as goal

-- none of those that were looked at says anything
abbrev pub invariant-loop-at : goal.invariant-loop-at
invariant-loop-at l = (l.at ≤ length l.numbers) × ((i : ℕ) → l.at ≤ i → i < length l.numbers → said_at l.asked l.self (get_or l.numbers i 0) ≡ None)

abbrev pub decreases-loop-at : goal.decreases-loop-at
decreases-loop-at l = l.at
