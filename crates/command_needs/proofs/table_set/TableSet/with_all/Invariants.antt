use Rattle.std.proofs.Common.{◌≡◌, take}
use Rattle.std.specs.Prelude.{◌||◌}
use Rattle.depot_model.specs.Tables.{is_in}
use Rattle.depot_model.specs.db_records.declared.table.TableId.{TableId}
use Rattle.command_needs.specs.Sets.{has_table}
use Rattle.command_needs.proofs.table_set.TableSet.with_all.Given as goal

-- the tables so far
abbrev pub invariant-loop-table : goal.invariant-loop-table
invariant-loop-table l = (table : TableId) → has_table l.set table ≡ (has_table l.fn.self table || is_in (take l.table-index l.tables) table)
