use Rattle.std.proofs.Common.{◌≡◌, ◌++◌}
use Rattle.std.specs.Prelude.{filter}
use Rattle.row_ranges.specs.Ranges.{has_row, range_table}
use Rattle.depot_rows.specs.table_changes.Changed.{rows_of}
use Rattle.history_query.specs.Crediting.{rows_told_in}
use Rattle.history_query.proofs.integrating.rows_listed.Given as goal

abbrev pub invariant-loop-row : goal.invariant-loop-row
invariant-loop-row l = l.rows ++ rows_told_in l.asker l.row-iterator ≡ rows_told_in l.asker (filter (has_row l.range) (rows_of l.tables (range_table l.range)))
