use Rattle.std.proofs.Common.{ℕ, List, sym, ap, ◌∙◌}
use Rattle.std.specs.Prelude.{filter}
use Rattle.std.specs.List.{list_any}
use Rattle.depot_rows.specs.depot_path.Path.{is_path, printed}
use Rattle.row_ranges.specs.Ranges.{has_row, range_table}
use Rattle.row_ranges.specs.declared.range.KeyRange.{KeyRange}
use Rattle.depot_rows.specs.table_changes.Changed.{rows_of}
use Rattle.integ_records.specs.Crediting.{is_within, span_of_rows}
use Rattle.integ_records.proofs.crediting.credits_of.Goals as goal

pub returns : goal.returns
returns c = λ d n sound has.
    let from = c.args.from.now in
    let all = rows_of c.args.tables.now in
    let range = c.in_ok-range.range in
    let from_bytes = c.as_bytes-from.ensures in
    let to_bytes = c.as_bytes-to.ensures in
    ap (list_any (is_within n))
    (c.in_ok-spans.ensures
    ∙ ap (λ (text : List ℕ). span_of_rows text (filter (has_row range) (all (range_table range)))) (c.as_bytes.ensures ∙ c.in_ok-text.ensures.printed)
    ∙ ap (λ (r : KeyRange). span_of_rows (printed from) (filter (has_row r) (all (range_table r)))) c.in_ok-range.ensures)
    ∙ c.rows_tell_credits.ensures d from c.args.to.now n sound has (ap is_path (sym from_bytes.value) ∙ from_bytes.path) (ap is_path (sym to_bytes.value) ∙ to_bytes.path)
