use Rattle.depot_rows.specs.table_changes.Changed.{rows_of}
use Rattle.depot_rows.specs.spec_form.declared.shape.Shape.TheVariants.{Change}
use Rattle.depot_rows.specs.depot_model.Steps.Changing.{change_form}
use Rattle.command_parts.proofs.Refused.{read_made, unread_made}
use Rattle.change_lists.proofs.saving.change_save.Goals as goal

pub returns-in_ok-step-in-Ok : goal.returns-in_ok-step-in-Ok
returns-in_ok-step-in-Ok c = λ d sound has_counter has_change has_working.
    let input = c.args.input.now in
    read_made (rows_of c.args.tables.now) d Change input (change_form d c.args.request.now input) c.in_ok-step-in-Ok.step c.in-Ok.form c.in-Ok.ensures.read
    (c.in_ok-step-in-Ok.ensures d sound has_counter has_change has_working)

pub returns-in_ok-step-in-Err : goal.returns-in_ok-step-in-Err
returns-in_ok-step-in-Err c = λ d sound has_counter has_change has_working.
    let input = c.args.input.now in
    unread_made (rows_of c.args.tables.now) d Change input (change_form d c.args.request.now input) c.in_ok-step-in-Err.step c.in-Err.fault c.in-Err.ensures.read
    c.in_ok-step-in-Err.ensures.known c.in_ok-step-in-Err.ensures.told
