use Rattle.std.proofs.Common.{◌≡◌, take}
use Rattle.depot_rows.specs.db_records.declared.key.Key.{Key}
use Rattle.depot_rows.specs.depot_model.Rules.{Rows}
use Rattle.row_changes.specs.Lines.{with_lines}
use Rattle.row_changes.specs.Overlay.{seen}
use Rattle.row_changes.proofs.overlay.Overlay.put_lines.Given as goal

abbrev pub invariant-loop-line : goal.invariant-loop-line
invariant-loop-line l = record {
  count : l.number ≡ l.line-index;
  done : (rows : Rows) (q : Key) → seen l.self.touched rows q ≡ with_lines 1 (take l.line-index l.lines) (seen l.initial.self.touched rows) q;
}
