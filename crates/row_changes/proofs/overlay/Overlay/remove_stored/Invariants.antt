use Rattle.std.proofs.Common.{◌≡◌, map}
use Rattle.std.specs.Prelude.{filter}
use Rattle.depot_rows.specs.db_records.declared.key.Key.{Key}
use Rattle.depot_rows.specs.db_records.Record.{key_of}
use Rattle.depot_rows.specs.depot_model.Rules.{Rows}
use Rattle.depot_rows.specs.table_changes.Changed.{rows_of}
use Rattle.row_ranges.specs.Ranges.{has_row, range_table}
use Rattle.row_changes.specs.Overlay.{seen}
use Rattle.row_changes.specs.Ranges.{removed}
use Rattle.row_changes.proofs.overlay.Overlay.remove_stored.Given as goal

abbrev pub invariant-loop-row : goal.invariant-loop-row
invariant-loop-row l = (rows : Rows) (q : Key) → removed (map key_of l.row-iterator) (seen l.self.touched rows) q
    ≡ removed (map key_of (filter (has_row l.range) (rows_of l.tables (range_table l.range)))) (seen l.initial.self.touched rows) q
