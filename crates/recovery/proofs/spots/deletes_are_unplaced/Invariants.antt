use Rattle.std.proofs.Common.{◌↔◌}
use Rattle.depot_rows.specs.db_records.declared.table.TableId.TheVariants.{Rev}
use Rattle.depot_rows.specs.table_changes.Changed.{rows_of}
use Rattle.recovery.specs.Rules.{DeletesAreUnplaced}
use Rattle.recovery.proofs.spots.deletes_are_unplaced.Given as goal

abbrev pub invariant-loop-row : goal.invariant-loop-row
invariant-loop-row l = DeletesAreUnplaced l.row-iterator ↔ DeletesAreUnplaced (rows_of l.tables Rev)
