use Rattle.std.proofs.Common.{List, ap, ◌∙◌, map}
use Rattle.std.specs.Prelude.{filter}
use Rattle.row_ranges.specs.Ranges.{has_row, range_table}
use Rattle.row_ranges.specs.declared.range.KeyRange.{KeyRange}
use Rattle.depot_rows.specs.table_changes.Changed.{rows_of}
use Rattle.depot_rows.specs.depot_model.declared.reply.Row.{Row}
use Rattle.depot_rows.specs.depot_model.Steps.History.{integrated_row}
use Rattle.reply_rows.specs.Made.{told}
use Rattle.reply_rows.specs.declared.step.Step.{Step}
use Rattle.history_query.specs.Crediting.{listed_in}
use Rattle.history_query.proofs.Credits.{told_are}
use Rattle.history_query.proofs.integrating.tell_records.Goals as goal

pub returns : goal.returns
returns c = λ d caller asked has.
    ap (λ (s : Step). record s { rows = c.in_ok-rows.rows }) c.new-step.ensures
    ∙ ap (λ (rs : List Row). told rs)
    (c.in_ok-rows.ensures
    ∙ told_are c.args.asker.now (filter (has_row c.in_ok-range.range) (rows_of c.args.tables.now (range_table c.in_ok-range.range)))
    ∙ ap (map integrated_row)
    (ap (λ (r : KeyRange). listed_in c.args.asker.now (filter (has_row r) (rows_of c.args.tables.now (range_table r)))) c.in_ok-range.ensures.range
    ∙ c.rows_are_records.ensures d caller c.args.asker.now c.args.path.now asked has))
