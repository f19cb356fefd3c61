use Rattle.std.proofs.Common.{◌≡◌, ◌≤◌, ◌<◌, ◌-◌, ℕ, false, length, get_or}
use Rattle.depot_path.proofs.filling.first_fit.Given as goal

abbrev pub invariant-loop-at : goal.invariant-loop-at
invariant-loop-at l = (l.from ≤ l.at) × (l.from < length l.column → l.at < length l.column) × ((k : ℕ) → l.from ≤ k → k < l.at → get_or l.column k false ≡ false)

abbrev pub decreases-loop-at : goal.decreases-loop-at
decreases-loop-at l = length l.column - l.at
