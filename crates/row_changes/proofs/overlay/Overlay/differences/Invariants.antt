use Rattle.std.proofs.Common.{◌≡◌, ◌++◌}
use Rattle.depot_rows.specs.table_changes.Changed.{rows_of}
use Rattle.row_changes.specs.Difference.{AreMade}
use Rattle.depot_rows.specs.Standing.{row_in}
use Rattle.row_changes.proofs.overlay.Overlay.differences.Given as goal

abbrev pub invariant-loop-key : goal.invariant-loop-key
invariant-loop-key l = record {
  made : AreMade (row_in (rows_of l.tables)) l.yielded l.changes.items;
  whole : l.yielded ++ l.key-iterator ≡ l.fn.self.touched.entries;
}
