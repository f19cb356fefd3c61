use Rattle.std.proofs.Common.{◌≤◌, length, drop}
use Rattle.depot_path.specs.Rows.{IsRow}
use Rattle.depot_path.proofs.fit.fits_by_rows.Given as goal

abbrev pub invariant-loop-at : goal.invariant-loop-at
invariant-loop-at l = (l.at ≤ length l.text) × IsRow l.pieces (drop l.at l.text) l.row

abbrev pub decreases-loop-at : goal.decreases-loop-at
decreases-loop-at l = l.at
