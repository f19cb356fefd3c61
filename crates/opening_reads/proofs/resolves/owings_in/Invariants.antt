use Rattle.std.proofs.Common.{◌≡◌, ◌++◌}
use Rattle.std.specs.Prelude.{filter}
use Rattle.std.specs.List.{filter_map}
use Rattle.row_ranges.specs.Ranges.{has_row, range_table}
use Rattle.depot_rows.specs.table_changes.Changed.{rows_of}
use Rattle.opening_reads.specs.Owed.{owing_of_row}
use Rattle.opening_reads.proofs.resolves.owings_in.Given as goal

abbrev pub invariant-loop-row : goal.invariant-loop-row
invariant-loop-row l =
    l.owings ++ filter_map (owing_of_row l.client l.path) l.row-iterator
    ≡ filter_map (owing_of_row l.client l.path) (filter (has_row l.range) (rows_of l.tables (range_table l.range)))
