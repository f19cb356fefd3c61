use Rattle.std.proofs.Common.{◌-◌, length}
use Rattle.table_locks.proofs.preparing.+follow_from.Given as goal

abbrev pub decreases-follow_from : goal.decreases-follow_from
decreases-follow_from g l = length l.held.now - l.from
