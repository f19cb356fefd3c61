use Rattle.std.proofs.Common.{◌≡◌, ◌++◌}
use Rattle.std.specs.Prelude.{filter, flat_map}
use Rattle.depot_rows.specs.db_records.declared.table.TableId.TheVariants.{Working}
use Rattle.depot_rows.specs.table_changes.Changed.{rows_of}
use Rattle.depot_rows.specs.table_store.Marks.{is_of_client}
use Rattle.opening_reads.specs.InChange.{opening_of_row}
use Rattle.opening_reads.proofs.in_change.openings_of.Given as goal

abbrev pub invariant-loop-row : goal.invariant-loop-row
invariant-loop-row l =
    l.openings ++ flat_map (opening_of_row l.client l.change) l.row-iterator
    ≡ flat_map (opening_of_row l.client l.change) (filter (is_of_client l.client) (rows_of l.tables Working))
