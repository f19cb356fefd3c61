use Rattle.std.proofs.Common.{◌≡◌, ◌++◌}
use Rattle.std.specs.Prelude.{filter}
use Rattle.depot_rows.specs.table_changes.Changed.{rows_of}
use Rattle.row_ranges.specs.Ranges.{has_row, range_table}
use Rattle.row_reads.specs.Groups.{users_in}
use Rattle.row_reads.proofs.groups.users_of_rows.Given as goal

abbrev pub invariant-loop-row : goal.invariant-loop-row
invariant-loop-row l = l.users ++ users_in l.row-iterator ≡ users_in (filter (has_row l.range) (rows_of l.tables (range_table l.range)))
