use Rattle.std.proofs.Common.{◌≡◌, ◌↔◌}
use Rattle.depot_follow.proofs.rows.same_version.Given as goal

abbrev pub invariant-loop-row : goal.invariant-loop-row
invariant-loop-row l = (l.row-iterator ≡ l.others) ↔ (l.fn.one.rows ≡ l.fn.other.rows)
