use Rattle.std.proofs.Common.{ℕ, List, ap, ◌∙◌, map}
use Rattle.std.specs.Prelude.{filter}
use Rattle.depot_rows.specs.db_records.declared.rows.IntegedRecord.{IntegedRecord}
use Rattle.row_ranges.specs.Ranges.{has_row, range_table}
use Rattle.row_ranges.specs.declared.range.KeyRange.{KeyRange}
use Rattle.depot_rows.specs.table_changes.Changed.{rows_of}
use Rattle.depot_rows.specs.depot_model.Steps.History.{up_to}
use Rattle.revision_reads.specs.History.{numbered_record}
use Rattle.history_query.specs.Crediting.{into_revision, listed_in}
use Rattle.history_query.specs.Logging.{log_row}
use Rattle.history_query.proofs.Credits.{listed_are}
use Rattle.history_query.proofs.logging.log_in.Goals as goal

pub returns : goal.returns
returns c = λ d caller reads is.
    let path = c.args.path.now in
    let asker = c.args.asker.now in
    let range = c.args.range.now in
    let rows = rows_of c.args.tables.now in
    let records =
    listed_are asker (filter (has_row range) (rows (range_table range))) ∙ ap (λ (r : KeyRange). listed_in asker (filter (has_row r) (rows (range_table r)))) is
    ∙ c.rows_are_records.ensures d caller asker path reads.asked reads.has_integed in
    c.in_ok-row.ensures d reads.choice.sound reads.choice.has_change reads.choice.has_rev
    ∙ ap (λ (credits : ℕ → List IntegedRecord). log_row d path credits (map numbered_record (up_to d path c.args.last)))
    (λ i rev. (c.in_ok-credits.ensures rev ∙ ap (into_revision rev) records) i)
