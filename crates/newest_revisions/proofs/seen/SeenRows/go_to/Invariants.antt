use Rattle.std.proofs.Common.{◌≡◌, ◌-◌, length}
use Rattle.newest_revisions.proofs.seen.SeenRows.go_to.Given as goal

abbrev pub invariant-loop-self : goal.invariant-loop-self
invariant-loop-self l = l.self.rows ≡ l.fn.self.rows

abbrev pub decreases-loop-self : goal.decreases-loop-self
decreases-loop-self l = length l.self.rows.items - l.self.passed
