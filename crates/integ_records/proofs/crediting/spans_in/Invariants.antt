use Rattle.std.proofs.Common.{◌≡◌, ◌++◌}
use Rattle.std.specs.Prelude.{filter}
use Rattle.row_ranges.specs.Ranges.{has_row, range_table}
use Rattle.depot_rows.specs.table_changes.Changed.{rows_of}
use Rattle.integ_records.specs.Crediting.{span_of_rows}
use Rattle.integ_records.proofs.crediting.spans_in.Given as goal

abbrev pub invariant-loop-row : goal.invariant-loop-row
invariant-loop-row l = l.spans ++ span_of_rows l.from l.row-iterator ≡ span_of_rows l.from (filter (has_row l.range) (rows_of l.tables (range_table l.range)))
