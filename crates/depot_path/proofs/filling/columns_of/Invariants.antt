use Rattle.std.proofs.Common.{◌≤◌, length, drop}
use Rattle.depot_path.specs.Filling.{IsColumn, AreColumns}
use Rattle.depot_path.proofs.filling.columns_of.Given as goal

abbrev pub invariant-loop-at : goal.invariant-loop-at
invariant-loop-at l = (l.at ≤ length l.pieces) × IsColumn (drop l.at l.pieces) l.text l.column.items × AreColumns (drop l.at l.pieces) l.text l.columns.items

abbrev pub decreases-loop-at : goal.decreases-loop-at
decreases-loop-at l = l.at
