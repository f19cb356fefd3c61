use Rattle.std.proofs.Common.{ℕ, List, ap, ◌∙◌}
use Rattle.std.specs.Prelude.{flat_map, is_some}
use Rattle.depot_rows.specs.db_records.declared.table.TableId.TheVariants as table_ids
use Rattle.depot_rows.specs.table_changes.Changed.{rows_of}
use Rattle.depot_rows.specs.depot_model.Shelves.{kept}
use Rattle.shelf_ops.specs.Kept.{kept_file}
use Rattle.shelf_ops.specs.ShelfRows.{shelf_files}
use Rattle.shelf_ops.proofs.Sifted.{sifted}
use Rattle.shelf_ops.proofs.keeping.kept_files.Goals as goal

pub returns : goal.returns
returns c = λ d sound has.
    let n = c.args.change in
    c.in_ok-files.ensures d sound has
    ∙ ap (flat_map (kept_file d n))
    (c.as_slice.ensures ∙ c.in_ok-paths.ensures ∙ ap (λ (start : List ℕ). shelf_files start (rows_of c.args.tables.now table_ids.Domain)) c.in_ok-start.ensures)
    ∙ sifted (λ path. is_some (kept d n path)) _
    ∙ c.rows_tell_kept.ensures d n sound has
