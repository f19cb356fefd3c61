use Rattle.std.proofs.Common.{Result, Ok, Err, sym, subst}
use Rattle.std.specs.Prelude.{IfOk}
use Rattle.depot_rows.specs.table_changes.Changed.{rows_of}
use Rattle.depot_rows.specs.depot_model.declared.command.Command.{Command}
use Rattle.depot_rows.specs.depot_model.declared.request.WordFault.{WordFault}
use Rattle.depot_rows.specs.depot_model.Commands.{whole_step}
use Rattle.depot_rows.specs.depot_model.Common.{word_refusal}
use Rattle.depot_rows.specs.depot_model.Step.{refuses}
use Rattle.step_stores.specs.Stored.{IsStoring}
use Rattle.command_core.specs.Outcomes.{HasNeededBy, IsFormed}
use Rattle.command_core.proofs.Locking.{opened_has_rows}
use Rattle.command_core.proofs.evaluation.request_step.Goals as goal

pub returns-in_ok-step-in-Ok : goal.returns-in_ok-step-in-Ok
returns-in_ok-step-in-Ok c = λ d sound asks has.
    let request = c.args.request.now in
    let all = rows_of c.args.tables.now in
    let from = c.args.tables.now.archive_end in
    let step = c.in_ok-step-in-Ok.step in
    let Asks : Result Command WordFault → Type 0 = λ asked. IfOk asked IsFormed in
    let P : Result Command WordFault → Type 0 =
    λ asked. IsStoring all from d (elim asked [ Err fault ↦ refuses (word_refusal fault) | Ok command ↦ whole_step d request command ]) step in
    let made = subst P (sym c.in-Ok.is) (c.in_ok-step-in-Ok.ensures d sound (subst Asks c.in-Ok.is asks) (subst (HasNeededBy all d) c.in-Ok.is has)) in
    record { is_made = made; opened = opened_has_rows all d request step.deeds has made.deeds }
