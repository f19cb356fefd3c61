use Rattle.std.proofs.Common.{List, ap, ◌∙◌}
use Rattle.depot_rows.specs.db_records.declared.key.Key.{Key}
use Rattle.depot_rows.specs.db_records.declared.record.Record.{Record}
use Rattle.depot_rows.specs.table_store.Rows.{TableRows, rows_from}
use Rattle.row_reads.specs.Forms.{names_in}
use Rattle.named_forms.specs.Named.{leading}
use Rattle.named_forms.proofs.Walking.{names_begin}
use Rattle.named_forms.proofs.names.names_with.Goals as goal

pub returns : goal.returns
returns c = λ d kind e has.
    let version = c.version-version in
    let table = c.table-table.ensures in
    let word = c.args.word.now in
    let start = c.args.start.now in
    c.in_ok-names.ensures
    ∙ ap (λ (rows : List Record). names_in (leading word start rows)) (c.from_key.ensures ∙ ap (λ (k : Key). rows_from k version.result.now.rows) c.in_ok-first.ensures)
    ∙ names_begin word start version.result.now _ (ap (λ (v : TableRows). v.rows) version.ensures.rows) version.ensures.table table.of_table table.rising d kind e has
