use Rattle.std.proofs.Common.{subst}
use Rattle.depot_rows.specs.table_changes.Changed.{rows_of}
use Rattle.depot_rows.specs.depot_model.Step.{Step as ModelStep}
use Rattle.reply_rows.specs.Made.{IsMade}
use Rattle.named_files.proofs.Selection.{over_selected}
use Rattle.opened_files.proofs.locking.over_selected.Goals as goal

pub returns : goal.returns
returns g c = λ d sound asked working.
    let rows = rows_of c.args.tables.now in
    c.in_ok-step.ensures rows d d _
    (subst (λ (m : ModelStep). IsMade rows d d m c.in_ok-done.done)
    (over_selected d c.args.caller.now c.args.change (g.A.FileAct.acts c.args.act.now d) c.args.arguments.now)
    (c.in_ok-done.ensures d (record { sound = sound; asked = asked; listed = working })
    (c.requires rows d (record { sound = sound; asked = asked; listed = working }))))
