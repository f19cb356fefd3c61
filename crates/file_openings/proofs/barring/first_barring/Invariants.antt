use Rattle.std.proofs.Common.{◌≡◌}
use Rattle.std.specs.Prelude.{filter}
use Rattle.row_ranges.specs.Ranges.{has_row, range_table}
use Rattle.depot_rows.specs.table_changes.Changed.{rows_of}
use Rattle.file_openings.specs.Barring.{barring_in}
use Rattle.file_openings.proofs.barring.first_barring.Given as goal

abbrev pub invariant-loop-row : goal.invariant-loop-row
invariant-loop-row l =
    barring_in l.client l.exclusive l.row-iterator ≡ barring_in l.client l.exclusive (filter (has_row l.range) (rows_of l.tables (range_table l.range)))
