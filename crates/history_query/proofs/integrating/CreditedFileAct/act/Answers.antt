use Rattle.std.proofs.Common.{sym, subst, map}
use Rattle.depot_rows.specs.table_changes.Changed.{rows_of}
use Rattle.depot_rows.specs.depot_model.Step.{tells}
use Rattle.depot_rows.specs.depot_model.Steps.History.{integrated_row, records_of}
use Rattle.reply_rows.specs.Made.{IsMade}
use Rattle.reply_rows.specs.declared.step.Step.{Step}
use Rattle.reply_rows.proofs.Bare.{tells_made}
use Rattle.history_query.proofs.Credits.{records_bare}
use Rattle.history_query.proofs.integrating.CreditedFileAct.act.Goals as goal

pub returns : goal.returns
returns c = λ d e reads later.
    let caller = c.args.self.now.caller.now in
    let all = rows_of c.args.tables.now in
    let records = records_of d caller c.args.path.now in
    subst (λ (x : Step). IsMade all d e (tells (map integrated_row records)) x) (sym (c.in_ok-step.ensures d caller reads.asked reads.has_integed))
    (tells_made all d e (map integrated_row records) (records_bare records))
