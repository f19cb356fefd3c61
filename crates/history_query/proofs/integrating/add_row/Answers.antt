use Rattle.std.proofs.Common.{List, Option, ◌++◌, ap, ◌∙◌}
use Rattle.depot_rows.specs.db_records.declared.rows.IntegedRecord.{IntegedRecord}
use Rattle.depot_rows.specs.depot_model.declared.reply.Row.{Row}
use Rattle.history_query.specs.Crediting.{told_by}
use Rattle.history_query.proofs.integrating.add_row.Goals as goal

pub returns : goal.returns
returns c =
    let old : List Row = c.args.rows.now in
    c.in_ok-add_found.ensures ∙ ap (λ (o : Option IntegedRecord). old ++ told_by c.args.asker.now o) c.as_integed-found.ensures
