use Rattle.std.proofs.Common.{◌++◌, refl, sym, ◌∙◌}
use Rattle.depot_rows.specs.db_records.declared.table.TableId.TheVariants as tables
use Rattle.depot_rows.specs.table_changes.Changed.{rows_of}
use Rattle.depot_rows.specs.depot_model.About.{about}
use Rattle.depot_rows.specs.depot_model.Commands.{own_step}
use Rattle.depot_rows.specs.depot_model.Common.{common_refusals, last_refusals}
use Rattle.command_core.proofs.Granted.{refusing, granting}
use Rattle.command_core.proofs.Refusals.{none_later}
use Rattle.command_core.proofs.evaluation.command_step.Goals as goal

pub returns-in_ok-refused-in-Some : goal.returns-in_ok-refused-in-Some
returns-in_ok-refused-in-Some c = λ d sound asks has.
    let request = c.args.request.now in
    let command = c.args.command.now in
    let all = rows_of c.args.tables.now in
    let from = c.args.tables.now.archive_end in
    let who = c.in_ok-who.ensures.depot d sound (has tables.Group refl) in
    refusing all from d (common_refusals d request.caller (about command) ++ last_refusals d command) (own_step d request command) c.in-Some.row
    c.in_ok-refused-in-Some.refused (sym c.in-Some.is ∙ c.in_ok-refusal.ensures d sound who (has tables.Protect refl) (has tables.Domain refl)) c.in_ok-refused-in-Some.ensures

pub returns-in_ok-step-in-None : goal.returns-in_ok-step-in-None
returns-in_ok-step-in-None c = λ d sound asks has.
    let request = c.args.request.now in
    let command = c.args.command.now in
    let all = rows_of c.args.tables.now in
    let from = c.args.tables.now.archive_end in
    let who = c.in_ok-who.ensures.depot d sound (has tables.Group refl) in
    let none = none_later (common_refusals d request.caller (about command)) (last_refusals d command)
    (sym c.in-None.is ∙ c.in_ok-refusal.ensures d sound who (has tables.Protect refl) (has tables.Domain refl)) in
    granting all from d (common_refusals d request.caller (about command) ++ last_refusals d command) (own_step d request command)
    c.in_ok-step-in-None.step (sym c.in-None.is ∙ c.in_ok-refusal.ensures d sound who (has tables.Protect refl) (has tables.Domain refl))
    (c.in_ok-step-in-None.ensures d sound who none asks has)
