use Rattle.std.proofs.Common.{List, ℕ, ◌+◌, length, take, ap, sym, ◌∙◌, length-append}
use Rattle.depot_rows.specs.db_records.Table.{all_tables}
use Rattle.journal_groups.specs.Groups.{body_of}
use Rattle.depot_rows.specs.table_changes.Changed.{rows_of}
use Rattle.depot_rows.specs.table_store.Rows.{TableRows}
use Rattle.checkpoint_file.specs.Checkpoint.{puts, puts_in}
use Rattle.checkpoint_file.proofs.Bodies.{body_more}
use Rattle.checkpoint_file.proofs.printing.measure_tables.Goals as goal

pub loop-table-preserved : goal.loop-table-preserved
loop-table-preserved c =
    let at = c.loop-table in
    let before : List ℕ = body_of (puts_in (rows_of c.args.tables.now) (take at.table-index all_tables)) in
    c.in_ok-size.ensures
    ∙ ap (λ (n : ℕ). n + length (body_of (puts c.version.result.now.rows))) at.invariant
    ∙ ap (λ (v : TableRows). length before + length (body_of (puts v.rows))) c.version.ensures.rows
    ∙ sym (length-append before _)
    ∙ ap length (sym (body_more (rows_of c.args.tables.now) at.table-index c.loop-table-test.true))
