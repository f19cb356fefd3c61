use Rattle.std.proofs.Common.{Option, ◌++◌, ap, ◌∙◌}
use Rattle.depot_rows.specs.db_records.declared.rows.IntegedRecord.{IntegedRecord}
use Rattle.history_query.specs.Crediting.{credited, into_revision, listed_by}
use Rattle.history_query.proofs.crediting.add_row.Goals as goal

pub returns : goal.returns
returns c = λ rev.
    c.in_ok-add_found.ensures rev
    ∙ ap (λ (o : Option IntegedRecord). credited c.args.credits.now rev ++ into_revision rev (listed_by c.args.asker.now o)) c.as_integed-found.ensures
