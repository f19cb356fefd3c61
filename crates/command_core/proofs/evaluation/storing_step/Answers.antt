use Rattle.std.proofs.Common.{◌≡◌, false, refl, sym, ◌∙◌}
use Rattle.depot_rows.specs.db_records.declared.table.TableId.TheVariants as tables
use Rattle.depot_rows.specs.table_changes.Changed.{rows_of}
use Rattle.depot_rows.specs.depot_model.Commands.{own_step}
use Rattle.step_stores.proofs.Storing.{made_stores}
use Rattle.command_core.specs.Families.{is_submit}
use Rattle.command_core.proofs.Storing.{own_lands_nothing}
use Rattle.command_core.proofs.evaluation.storing_step.Goals as goal

pub returns-then-is_submit : goal.returns-then-is_submit
returns-then-is_submit c = λ d sound who none formed has.
    c.in_ok-submitted.ensures d sound (c.in_ok-asker.ensures d sound who (has tables.Protect refl) (has tables.Domain refl)) (sym c.is_submit.ensures ∙ c.if-is_submit.true) none has

pub returns : goal.returns
returns c = λ d sound who none formed has.
    let request = c.args.request.now in
    let command = c.args.command.now in
    let other : is_submit command ≡ false = sym c.is_submit.ensures ∙ c.if-is_submit.false in
    made_stores (rows_of c.args.tables.now) c.args.tables.now.archive_end d (own_step d request command) c.in_ok-step.step
    (c.in_ok-step.ensures d sound who other formed has) (own_lands_nothing d request command other)
