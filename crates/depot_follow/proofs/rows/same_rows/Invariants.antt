use Rattle.std.proofs.Common.{◌≡◌, ◌<◌, ℕ, get_or}
use Rattle.depot_rows.specs.db_records.Table.{all_tables}
use Rattle.depot_rows.specs.db_records.declared.table.TableId.TheVariants.{Counter}
use Rattle.depot_rows.specs.table_changes.Changed.{rows_of}
use Rattle.depot_follow.proofs.rows.same_rows.Given as goal

abbrev pub invariant-loop-table : goal.invariant-loop-table
invariant-loop-table l = (n : ℕ) → n < l.table-index → rows_of l.one (get_or all_tables n Counter) ≡ rows_of l.other (get_or all_tables n Counter)
