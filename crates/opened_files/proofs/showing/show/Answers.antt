use Rattle.std.proofs.Common.{List, ap, ◌∙◌, map}
use Rattle.std.specs.Prelude.{filter}
use Rattle.depot_rows.specs.db_records.declared.record.Record.{Record}
use Rattle.row_ranges.specs.Ranges.{has_row, range_table}
use Rattle.row_ranges.specs.declared.range.KeyRange.{KeyRange}
use Rattle.depot_rows.specs.table_changes.Changed.{rows_of}
use Rattle.depot_rows.specs.depot_model.declared.reply.Row.{Row}
use Rattle.reply_rows.specs.Made.{told}
use Rattle.reply_rows.specs.declared.step.Step.{Step}
use Rattle.file_openings.specs.Openings.{workings}
use Rattle.opened_files.specs.Shown.{is_shown, row_of_working}
use Rattle.opened_files.proofs.showing.show.Goals as goal

pub returns : goal.returns
returns c = λ d has.
    ap (λ (s : Step). record s { rows = c.in_ok-rows.rows }) c.new-step.ensures
    ∙ ap (λ (rs : List Row). told rs)
    (c.in_ok-rows.ensures
    ∙ ap (λ (rs : List Record). map row_of_working (filter (is_shown c.args.all c.args.client.now) (workings rs)))
    (ap (λ (r : KeyRange). filter (has_row r) (rows_of c.args.tables.now (range_table r))) c.in_ok-range.ensures.range
    ∙ c.rows_are_openings.ensures d c.args.path.now c.in_ok-range.ensures.read_again has))
