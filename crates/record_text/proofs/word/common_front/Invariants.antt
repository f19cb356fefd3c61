use Rattle.std.proofs.Common.{◌≡◌, ◌+◌, ◌-◌, ◌≤◌, length, drop}
use Rattle.record_text.specs.Words.{common}
use Rattle.record_text.proofs.word.common_front.Given as goal

abbrev pub invariant-loop-count : goal.invariant-loop-count
invariant-loop-count l = (l.count ≤ length l.text) × (l.count ≤ length l.bytes) × (l.count + common (drop l.count l.text) (drop l.count l.bytes) ≡ common l.text l.bytes)

abbrev pub decreases-loop-count : goal.decreases-loop-count
decreases-loop-count l = length l.text - l.count
