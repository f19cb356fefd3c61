use Rattle.std.proofs.Common.{◌≡◌, length}
use Rattle.depot_rows.specs.db_records.declared.key.Key.{Key}
use Rattle.depot_rows.specs.depot_model.Rules.{Rows}
use Rattle.row_changes.specs.Landing.{with_rows}
use Rattle.row_changes.specs.Overlay.{seen}
use Rattle.row_changes.proofs.overlay.Overlay.put_rows.Given as goal

-- those that are left, put over what is seen, make what all make
abbrev pub invariant-loop-row : goal.invariant-loop-row
invariant-loop-row l = (before : Rows) (q : Key) → with_rows l.left.items (seen l.self.touched before) q ≡ with_rows l.fn.rows.items (seen l.initial.self.touched before) q

abbrev pub decreases-loop-row : goal.decreases-loop-row
decreases-loop-row l = length l.left.items
