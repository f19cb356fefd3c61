use Rattle.std.proofs.Common.{◌≡◌, ◌++◌}
use Rattle.std.specs.Prelude.{filter}
use Rattle.depot_rows.specs.db_records.declared.table.TableId.TheVariants as table_ids
use Rattle.depot_rows.specs.table_changes.Changed.{rows_of}
use Rattle.row_ranges.specs.Ranges.{has_row}
use Rattle.row_ranges.specs.declared.range.KeyRange.TheVariants.{Counters}
use Rattle.row_reads.specs.Counters.{counters_in}
use Rattle.row_reads.proofs.counters.counters_of_rows.Given as goal

abbrev pub invariant-loop-row : goal.invariant-loop-row
invariant-loop-row l = l.counters ++ counters_in l.row-iterator ≡ counters_in (filter (has_row Counters) (rows_of l.tables table_ids.Counter))
