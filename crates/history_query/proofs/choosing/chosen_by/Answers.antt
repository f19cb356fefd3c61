use Rattle.std.proofs.Common.{◌∙◌}
use Rattle.depot_rows.specs.db_records.declared.table.TableId.TheVariants as tables
use Rattle.depot_rows.specs.table_changes.Changed.{rows_of}
use Rattle.history_query.proofs.choosing.chosen_by.Goals as goal

pub returns-clause-paths : goal.returns-clause-paths
returns-clause-paths c = λ d reads.
    let heads = c.in_ok-candidates.ensures.heads (c.none-heads.ensures.heads (rows_of c.args.tables.now tables.Rev)) in
    c.in_ok-found.ensures.paths d reads heads ∙ c.in_ok-candidates.ensures.paths d reads

pub returns-clause-rows : goal.returns-clause-rows
returns-clause-rows c = λ d reads. c.in_ok-found.ensures.rows d reads (c.in_ok-candidates.ensures.heads (c.none-heads.ensures.heads (rows_of c.args.tables.now tables.Rev)))
