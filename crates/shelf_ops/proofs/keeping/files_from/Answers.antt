use Rattle.std.proofs.Common.{ℕ, List, ◌++◌, ap, ◌∙◌}
use Rattle.depot_rows.specs.db_records.declared.table.TableId.TheVariants as table_ids
use Rattle.depot_rows.specs.table_changes.Changed.{rows_of}
use Rattle.shelf_ops.specs.ShelfRows.{shelf_files}
use Rattle.shelf_ops.proofs.Listed.{walked}
use Rattle.shelf_ops.proofs.keeping.files_from.Goals as goal

pub loop-row-init : goal.loop-row-init
loop-row-init c =
    let start = c.args.start.now in
    ap (λ (l : List (List ℕ)). l ++ shelf_files start c.into_iter-row-iterator.result) c.new-files.ensures
    ∙ ap (shelf_files start) (c.into_iter-row-iterator.ensures.into_iter_gives ∙ c.in_ok-row-items.ensures)
    ∙ walked start (rows_of c.args.tables.now table_ids.Domain)
