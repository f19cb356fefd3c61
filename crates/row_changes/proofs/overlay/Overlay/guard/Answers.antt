use Rattle.std.proofs.Common.{◌≡◌, ◌∙◌}
use Rattle.depot_rows.specs.table_changes.Changed.{rows_of}
use Rattle.depot_rows.specs.depot_model.Rules.{Rows}
use Rattle.depot_rows.specs.Standing.{row_in}
use Rattle.row_ranges.specs.declared.range.KeyRange.TheVariants.{Protections}
use Rattle.row_changes.specs.Lines.{with_lines}
use Rattle.row_changes.specs.Overlay.{seen}
use Rattle.row_changes.specs.Ranges.{emptied}
use Rattle.row_changes.proofs.Guarded.{lines-guarded}
use Rattle.row_changes.proofs.overlay.Overlay.guard.Goals as goal

pub returns : goal.returns
returns c =
    let rows : Rows = row_in (rows_of c.args.tables.now) in
    let before : Rows = seen c.args.self.now.touched rows in
    let cleared : seen c.empty.new.self.touched rows ≡ emptied Protections before = λ i q. c.in_ok-empty.ensures q i in
    λ q. c.in_ok-put_lines.ensures rows q ∙ (λ i. with_lines 1 (c.as_slice.ensures i) (cleared i) q) ∙ lines-guarded c.args.lines.now before q
