use Rattle.std.proofs.Common.{◌≡◌, ◌++◌, take}
use Rattle.depot_rows.specs.db_records.Table.{all_tables}
use Rattle.journal_groups.specs.Groups.{body_of}
use Rattle.depot_rows.specs.table_changes.Changed.{rows_of}
use Rattle.checkpoint_file.specs.Checkpoint.{puts_in}
use Rattle.checkpoint_file.proofs.printing.append_tables.Given as goal

abbrev pub invariant-loop-table : goal.invariant-loop-table
invariant-loop-table l = l.text ≡ l.fn.text ++ body_of (puts_in (rows_of l.tables) (take l.table-index all_tables))
