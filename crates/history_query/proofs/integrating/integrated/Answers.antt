use Rattle.std.proofs.Common.{subst, map}
use Rattle.depot_rows.specs.table_changes.Changed.{rows_of}
use Rattle.depot_rows.specs.depot_model.Arguments.{no_file, submitted}
use Rattle.depot_rows.specs.depot_model.Step.{Step as ModelStep, tells}
use Rattle.depot_rows.specs.depot_model.Steps.History.{integrated_row, records_of}
use Rattle.reply_rows.specs.Made.{IsMade}
use Rattle.named_files.proofs.Heads.{over_heads}
use Rattle.history_query.proofs.integrating.integrated.Goals as goal

pub returns : goal.returns
returns c = λ d asks sound asked domain integed rev.
    let caller = c.args.caller.now in
    subst (λ (m : ModelStep). IsMade (rows_of c.args.tables.now) d d m c.in_ok-step.step)
    (over_heads d caller (submitted d) no_file (λ _ path. tells (map integrated_row (records_of d caller path))) c.args.arguments.now asks)
    (c.in_ok-step.ensures d (record { sound = sound; asked = asked; listed = rev; has_domain = domain; has_rev = rev }) (record { asked = asked; has_integed = integed }))
