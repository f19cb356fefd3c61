use Rattle.std.proofs.Common.{◌≡◌}
use Rattle.std.specs.List.{list_any}
use Rattle.depot_rows.specs.db_records.declared.table.TableId.TheVariants as table_ids
use Rattle.depot_rows.specs.table_changes.Changed.{rows_of}
use Rattle.change_lists.specs.Files.{is_listable_row, rows_made}
use Rattle.change_lists.proofs.files.may_list_change.Given as goal

abbrev pub invariant-loop-row : goal.invariant-loop-row
invariant-loop-row l = list_any (is_listable_row l.asker) l.row-iterator ≡ list_any (is_listable_row l.asker) (rows_made l.change (rows_of l.tables table_ids.Rev))
