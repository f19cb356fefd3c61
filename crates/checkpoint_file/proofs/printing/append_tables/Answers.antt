use Rattle.std.proofs.Common.{List, ℕ, ◌++◌, take, ap, sym, ◌∙◌, append_assoc}
use Rattle.depot_rows.specs.db_records.Table.{all_tables}
use Rattle.journal_groups.specs.Groups.{body_of}
use Rattle.depot_rows.specs.table_changes.Changed.{rows_of}
use Rattle.depot_rows.specs.table_store.Rows.{TableRows}
use Rattle.checkpoint_file.specs.Checkpoint.{puts, puts_in}
use Rattle.checkpoint_file.proofs.Bodies.{body_more}
use Rattle.checkpoint_file.proofs.printing.append_tables.Goals as goal

pub loop-table-preserved : goal.loop-table-preserved
loop-table-preserved c =
    let at = c.loop-table in
    c.in_ok-text.ensures
    ∙ ap (λ (l : List ℕ). l ++ body_of (puts c.version.result.now.rows)) at.invariant
    ∙ append_assoc c.args.text _ _
    ∙ ap (λ (v : TableRows). c.args.text ++ (body_of (puts_in (rows_of c.args.tables.now) (take at.table-index all_tables)) ++ body_of (puts v.rows))) c.version.ensures.rows
    ∙ ap (λ (l : List ℕ). c.args.text ++ l) (sym (body_more (rows_of c.args.tables.now) at.table-index c.loop-table-test.true))
