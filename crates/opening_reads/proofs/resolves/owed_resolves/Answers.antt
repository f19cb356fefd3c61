use Rattle.std.proofs.Common.{List, map, sym, ap, ◌∙◌}
use Rattle.std.specs.Prelude.{filter}
use Rattle.std.specs.List.{filter_map}
use Rattle.depot_rows.specs.db_records.declared.record.Record.{Record}
use Rattle.row_ranges.specs.Ranges.{has_row, range_table}
use Rattle.row_ranges.specs.declared.range.KeyRange.{KeyRange}
use Rattle.depot_rows.specs.table_changes.Changed.{rows_of}
use Rattle.depot_rows.specs.Deed.{owing_of}
use Rattle.depot_rows.specs.declared.deed.Owing.{Owing}
use Rattle.opening_reads.specs.Owed.{owing_of_row}
use Rattle.opening_reads.proofs.OwedRows.{of_file, of_opened}
use Rattle.opening_reads.proofs.OwingRows.{owings_told}
use Rattle.opening_reads.proofs.resolves.owed_resolves.Goals as goal

pub returns : goal.returns
returns c = λ d o sound has is.
    let client = c.args.client.now in
    let path = c.args.path.now in
    let said = owing_of_row client path in
    ap (λ (l : List Owing). map owing_of l)
    (c.in_ok-owings.ensures
    ∙ ap (λ (r : KeyRange). filter_map said (filter (has_row r) (rows_of c.args.tables.now (range_table r)))) (c.in_ok-range.ensures ∙ sym (of_file d client path o is))
    ∙ ap (λ (rows : List Record). filter_map said rows) (c.rows_tell_resolves.ensures d o sound has (of_opened d client path o is)))
    ∙ owings_told d sound.paths client path o is
