use Rattle.std.proofs.Common.{◌≡◌, ◌++◌}
use Rattle.depot_rows.specs.db_records.declared.table.TableId.TheVariants as table_ids
use Rattle.depot_rows.specs.table_changes.Changed.{rows_of}
use Rattle.shelf_ops.specs.ShelfRows.{shelf_files}
use Rattle.shelf_ops.proofs.keeping.files_from.Given as goal

abbrev pub invariant-loop-row : goal.invariant-loop-row
invariant-loop-row l = l.files ++ shelf_files l.start l.row-iterator ≡ shelf_files l.start (rows_of l.tables table_ids.Domain)
