use Rattle.std.proofs.Common.{◌≤◌, ◌-◌, length}
use Rattle.depot_path.proofs.Columns.{Behind}
use Rattle.depot_path.proofs.filling.literal_length.Given as goal

abbrev pub invariant-loop-count : goal.invariant-loop-count
invariant-loop-count l = (l.count ≤ length l.pieces) × Behind l.pieces l.count

abbrev pub decreases-loop-count : goal.decreases-loop-count
decreases-loop-count l = length l.pieces - l.count
