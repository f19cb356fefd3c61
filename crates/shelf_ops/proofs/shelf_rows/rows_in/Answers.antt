use Rattle.std.proofs.Common.{List, ap, subst, ◌∙◌}
use Rattle.std.specs.Prelude.{filter}
use Rattle.depot_rows.specs.db_records.declared.key.Key.{Key}
use Rattle.depot_rows.specs.db_records.declared.record.Record.{Record}
use Rattle.depot_rows.specs.db_records.declared.table.TableId.{TableId}
use Rattle.depot_rows.specs.table_store.Rows.{AllOfTable, TableRows, rows_from}
use Rattle.shelf_ops.specs.ShelfRows.{is_of_shelf, leading}
use Rattle.shelf_ops.proofs.Walking.{walk_shelf}
use Rattle.shelf_ops.proofs.shelf_rows.rows_in.Goals as goal

pub returns : goal.returns
returns c =
    let start = c.args.start.now in
    let rows : List Record = c.version-version.result.now.rows in
    let table = c.table-in_order.ensures in
    let of = subst (λ (t : TableId). AllOfTable t rows) c.version-version.ensures.table table.of_table in
    ap (leading start) (c.from_key.ensures ∙ ap (λ (k : Key). rows_from k rows) c.in_ok-first.ensures)
    ∙ walk_shelf start rows table.rising of
    ∙ ap (λ (v : TableRows). filter (is_of_shelf start) v.rows) c.version-version.ensures.rows
