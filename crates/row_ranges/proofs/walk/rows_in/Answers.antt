use Rattle.std.proofs.Common.{List, ap, ◌∙◌}
use Rattle.std.specs.Prelude.{filter}
use Rattle.table_store.specs.db_records.declared.key.Key.{Key}
use Rattle.table_store.specs.db_records.declared.record.Record.{Record}
use Rattle.table_store.specs.Rows.{TableRows, rows_from}
use Rattle.table_store.specs.Tables.{version_of}
use Rattle.row_ranges.specs.Ranges.{has_row}
use Rattle.row_ranges.specs.Walking.{leading}
use Rattle.row_ranges.proofs.Between.{walk-range}
use Rattle.row_ranges.proofs.walk.rows_in.Goals as goal

pub returns : goal.returns
returns c =
    let range = c.args.range.now in
    let rows : List Record = c.version-version.result.now.rows in
    ap (leading range) (c.from_key.ensures ∙ ap (λ (k : Key). rows_from k rows) c.in_ok-first.ensures)
    ∙ walk-range range rows c.table-in_order.ensures.rising
    ∙ ap (λ (v : TableRows). filter (has_row range) v.rows) (c.version-version.ensures.rows ∙ ap (version_of c.args.tables.now) c.table.ensures)
