use Rattle.std.proofs.Common.{◌∙◌, sym, subst, List}
use Rattle.depot_rows.specs.table_changes.Changed.{rows_of}
use Rattle.depot_rows.specs.depot_model.Commands.{step}
use Rattle.reply_rows.specs.declared.content.RowContent.{RowContent}
use Rattle.reply_rows.specs.Made.{ComeFrom, contents_of}
use Rattle.command_core.proofs.Storing.{stores_none}
use Rattle.command_core.proofs.evaluation.evaluate.Goals as goal

pub returns-clause-outcome : goal.returns-clause-outcome
returns-clause-outcome c = λ d sound asks has.
    let is = c.in_ok-step.ensures d sound asks has in
    let told = c.in_ok-outcome.ensures.told in
    let model = step d c.args.request.now in
    let P : List RowContent → Type 0 = λ places. ComeFrom (rows_of c.args.tables.now) d (contents_of model.rows) places in
    record {
      reply = told.0 ∙ is.is_made.rows;
      changes = c.in_ok-outcome.ensures.changes d model sound.landed_or_pending is;
      contents = c.in_ok-outcome.ensures.contents d model sound is;
      nothing_stored = λ nothing.
          told.1 ∙ stores_none (rows_of c.args.tables.now) c.args.tables.now.archive_end d c.in_ok-step.step.stores c.in_ok-step.step.deeds model.deeds is.is_made.stores nothing;
      reads = subst P (sym told.2) is.is_made.reads;
    }
