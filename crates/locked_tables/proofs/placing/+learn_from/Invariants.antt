use Rattle.std.proofs.Common.{◌-◌, length}
use Rattle.locked_tables.proofs.placing.+learn_from.Given as goal

abbrev pub decreases-learn_from : goal.decreases-learn_from
decreases-learn_from g l = length l.held.now - l.from
