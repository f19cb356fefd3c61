use Rattle.std.proofs.Common.{List, ◌++◌, ◌∙◌}
use Rattle.depot_rows.specs.depot_model.declared.reply.Field.{Field}
use Rattle.history_query.specs.Crediting.{credited}
use Rattle.history_query.specs.Logging.{fields_by}
use Rattle.history_query.proofs.logging.with_next.Goals as goal

pub returns : goal.returns
returns c = λ d has.
    let old : List Field = c.args.made in
    let credits = credited c.args.credits.now in
    let row = c.args.row.now in
    c.in_ok-more.ensures
    ∙ (λ i. old ++ fields_by ((c.as_bytes.ensures ∙ c.in_ok-index.ensures) i) credits row (c.change_of-change.ensures d has i))
