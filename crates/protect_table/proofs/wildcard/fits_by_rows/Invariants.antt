use Rattle.std.proofs.Common.{◌≤◌, length, drop}
use Rattle.protect_table.specs.Wildcard.{IsRow}
use Rattle.protect_table.proofs.wildcard.fits_by_rows.Given as goal

abbrev pub invariant-loop-at : goal.invariant-loop-at
invariant-loop-at l = (l.at ≤ length l.word) × IsRow (drop l.at l.word) l.text l.row

abbrev pub decreases-loop-at : goal.decreases-loop-at
decreases-loop-at l = l.at
