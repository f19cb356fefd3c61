use Rattle.std.proofs.Common.{length}
use Rattle.locked_tables.proofs.placing.+place_tables.Given as goal

abbrev pub decreases-place_tables : goal.decreases-place_tables
decreases-place_tables g l = length l.held.now
