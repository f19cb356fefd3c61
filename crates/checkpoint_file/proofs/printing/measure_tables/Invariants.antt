use Rattle.std.proofs.Common.{◌≡◌, length, take}
use Rattle.depot_rows.specs.db_records.Table.{all_tables}
use Rattle.journal_groups.specs.Groups.{body_of}
use Rattle.depot_rows.specs.table_changes.Changed.{rows_of}
use Rattle.checkpoint_file.specs.Checkpoint.{puts_in}
use Rattle.checkpoint_file.proofs.printing.measure_tables.Given as goal

abbrev pub invariant-loop-table : goal.invariant-loop-table
invariant-loop-table l = l.size ≡ length (body_of (puts_in (rows_of l.tables) (take l.table-index all_tables)))
