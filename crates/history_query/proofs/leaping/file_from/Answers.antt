use Rattle.std.proofs.Common.{List, ℕ, ap, ◌∙◌}
use Rattle.depot_rows.specs.db_records.declared.key.Key.TheVariants as keys
use Rattle.depot_rows.specs.db_records.declared.table.TableId.TheVariants as tables
use Rattle.depot_rows.specs.table_changes.Changed.{rows_of}
use Rattle.depot_rows.specs.table_store.Rows.{TableRows, rows_from}
use Rattle.named_files.specs.Listed.{listed}
use Rattle.named_files.specs.declared.listing.Listing.TheVariants.{Submitted}
use Rattle.history_query.proofs.Leaps.{rows_list_from}
use Rattle.history_query.proofs.leaping.file_from.Goals as goal

pub loop-row-init : goal.loop-row-init
loop-row-init c =
    ap (listed Submitted)
    (c.into_iter-row-iterator.ensures.into_iter_gives ∙ c.from_key-row-items.ensures
    ∙ ap (λ (text : List ℕ). rows_from (keys.Rev text 0) c.version.result.now.rows) (c.in_ok-from_bytes.ensures ∙ c.as_bytes.ensures)
    ∙ ap (λ (v : TableRows). rows_from (keys.Rev c.args.from.now 0) v.rows) c.version.ensures.rows)
    ∙ rows_list_from c.args.from.now (rows_of c.args.tables.now tables.Rev)
