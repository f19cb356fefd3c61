use Rattle.std.proofs.Common.{◌≡◌, ◌++◌}
use Rattle.std.specs.Prelude.{flat_map}
use Rattle.depot_rows.specs.db_records.declared.table.TableId.TheVariants as table_ids
use Rattle.depot_rows.specs.table_changes.Changed.{rows_of}
use Rattle.row_reads.specs.Groups.{group_in, groups_in}
use Rattle.row_reads.proofs.callers.groups_of.Given as goal

abbrev pub invariant-loop-row : goal.invariant-loop-row
invariant-loop-row l = l.groups ++ flat_map group_in l.row-iterator ≡ groups_in l.fn.user (rows_of l.tables table_ids.Group)
