use Rattle.std.proofs.Common.{Bool, List, ap, ◌∙◌, map}
use Rattle.std.specs.Prelude.{filter}
use Rattle.depot_rows.specs.db_records.declared.record.Record.{Record}
use Rattle.row_ranges.specs.Ranges.{has_row, range_table}
use Rattle.row_ranges.specs.declared.range.KeyRange.{KeyRange}
use Rattle.depot_rows.specs.table_changes.Changed.{rows_of}
use Rattle.depot_rows.specs.depot_model.Records.{working_record}
use Rattle.depot_rows.specs.depot_model.Steps.Opening.{is_exclusive}
use Rattle.file_openings.specs.Barring.{barring_in}
use Rattle.file_openings.specs.Openings.{openings}
use Rattle.file_openings.proofs.FirstBars.{first_bars}
use Rattle.file_openings.proofs.barring.barred_by.Goals as goal

pub returns : goal.returns
returns c = λ d sound has.
    let rows = rows_of c.args.tables.now in
    let client = c.args.client.now in
    let own = c.in_ok-range.ensures.read_again in
    c.in_ok-other.ensures
    ∙ ap (λ (r : KeyRange). barring_in client c.is_exclusive-exclusive.result (filter (has_row r) (rows (range_table r)))) c.in_ok-range.ensures.range
    ∙ ap (λ (rs : List Record). barring_in client c.is_exclusive-exclusive.result rs) (c.rows_are_openings.ensures d c.args.path.now own has)
    ∙ ap (λ (b : Bool). barring_in client b (map (working_record d) (openings d c.args.path.now))) (c.is_exclusive-exclusive.ensures ∙ ap is_exclusive c.as_bytes.ensures)
    ∙ first_bars d c.args.path.now client c.args.file_type.now sound own
