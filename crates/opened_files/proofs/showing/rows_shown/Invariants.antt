use Rattle.std.proofs.Common.{◌≡◌, ◌++◌, map}
use Rattle.std.specs.Prelude.{filter}
use Rattle.row_ranges.specs.Ranges.{has_row, range_table}
use Rattle.depot_rows.specs.table_changes.Changed.{rows_of}
use Rattle.file_openings.specs.Openings.{workings}
use Rattle.opened_files.specs.Shown.{is_shown, row_of_working}
use Rattle.opened_files.proofs.showing.rows_shown.Given as goal

abbrev pub invariant-loop-row : goal.invariant-loop-row
invariant-loop-row l =
    l.rows ++ map row_of_working (filter (is_shown l.all l.client) (workings l.row-iterator))
    ≡ map row_of_working (filter (is_shown l.all l.client) (workings (filter (has_row l.range) (rows_of l.tables (range_table l.range)))))
