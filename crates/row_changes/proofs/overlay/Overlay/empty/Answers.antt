use Rattle.std.proofs.Common.{map, ◌∙◌}
use Rattle.std.specs.Prelude.{filter}
use Rattle.depot_rows.specs.db_records.Record.{key_of}
use Rattle.depot_rows.specs.depot_model.Rules.{Rows}
use Rattle.depot_rows.specs.Standing.{row_in}
use Rattle.depot_rows.specs.table_changes.Changed.{rows_of}
use Rattle.row_ranges.specs.Ranges.{has_row, range_table}
use Rattle.row_changes.specs.Ranges.{removed}
use Rattle.row_changes.specs.Overlay.{seen}
use Rattle.row_changes.proofs.Removed.{removed-emptied}
use Rattle.row_changes.proofs.overlay.Overlay.empty.Goals as goal

pub returns : goal.returns
returns c =
    let range = c.args.range.now in
    let rows : Rows = row_in (rows_of c.args.tables.now) in
    let stored = map key_of (filter (has_row range) (rows_of c.args.tables.now (range_table range))) in
    λ q. c.in_ok-remove_stored.ensures rows q
    ∙ (λ i. removed stored (λ k. c.in_ok-remove.ensures rows k i) q)
    ∙ (λ i. removed stored (removed (c.in_ok-touched.ensures i) (seen c.args.self.now.touched rows)) q)
    ∙ removed-emptied range (rows_of c.args.tables.now) c.args.self.now.touched q
