use Rattle.std.proofs.Common.{List, [], ◌∷◌, ◌++◌, ap, ◌∙◌, map}
use Rattle.std.specs.Prelude.{codes}
use Rattle.depot_rows.specs.db_records.declared.record.Record.{Record}
use Rattle.depot_rows.specs.depot_model.declared.reply.Field.{Field}
use Rattle.depot_rows.specs.depot_model.Rows.{path_field, row}
use Rattle.revision_reads.specs.History.{seen}
use Rattle.history_query.specs.Crediting.{credited}
use Rattle.history_query.specs.Logging.{log_row, logged_from}
use Rattle.history_query.proofs.logging.log_of.Goals as goal

pub returns : goal.returns
returns c = λ d sound change rev.
    let credits = credited c.args.credits.now in
    c.row.ensures
    ∙ ap row (c.in_ok-made-2.ensures d change)
    ∙ (λ i. row (c.in_ok-made.ensures i ++ logged_from d 0 credits (map (λ r. seen r.now) (c.as_slice.ensures.value i))))
    ∙ ap (λ (old : List Field). row ((old ++ path_field (codes "depotFile") c.args.path.now ∷ []) ++ logged_from d 0 credits (map (λ r. seen r.now) c.in_ok-rows.rows.items))) c.new.ensures
    ∙ ap (λ (rs : List Record). log_row d c.args.path.now credits rs) (c.in_ok-rows.ensures d rev)
