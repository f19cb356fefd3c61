use Rattle.std.proofs.Common.{◌≡◌, take}
use Rattle.depot_rows.specs.db_records.declared.table.TableId.{TableId}
use Rattle.command_needs.specs.Sets.{has_table}
use Rattle.lock_core.specs.Works.{is_changed}
use Rattle.lock_core.proofs.preparing.changed_tables.Given as goal

-- the tables of the changes so far
abbrev pub invariant-loop-change : goal.invariant-loop-change
invariant-loop-change l = (table : TableId) → has_table l.tables table ≡ is_changed (take l.change-index l.changes) table
