use Rattle.std.proofs.Common.{◌≡◌, None}
use Rattle.depot_rows.specs.db_records.declared.table.TableId.TheVariants as table_ids
use Rattle.depot_rows.specs.table_store.Tables.{version_of}
use Rattle.row_rules.specs.Tests.{are_apart}
use Rattle.row_rules.proofs.locks.locks_are_apart.Given as goal

abbrev pub invariant-loop-row : goal.invariant-loop-row
invariant-loop-row l = are_apart l.last l.row-iterator ≡ are_apart None (version_of l.tables table_ids.Working).rows
