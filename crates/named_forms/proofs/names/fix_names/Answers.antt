use Rattle.std.proofs.Common.{List, ap, sym, ◌++◌, append-nil, ◌∙◌}
use Rattle.depot_rows.specs.db_records.declared.record.Record.{Record}
use Rattle.depot_rows.specs.table_store.Rows.{TableRows}
use Rattle.row_reads.specs.Forms.{names_in}
use Rattle.named_forms.proofs.Walking.{fixes_told}
use Rattle.named_forms.proofs.names.fix_names.Goals as goal

pub returns : goal.returns
returns c = λ d has.
    let version = c.version-version in
    let table = c.table-table.ensures in
    sym (append-nil c.loop-row.names)
    ∙ ap (λ (rows : List Record). c.loop-row.names ++ names_in rows) (sym c.in-None.ensures.steps.0)
    ∙ c.loop-row.invariant
    ∙ fixes_told c.args.change.now version.result.now _ (ap (λ (v : TableRows). v.rows) version.ensures.rows) version.ensures.table table.of_table table.rising d has
