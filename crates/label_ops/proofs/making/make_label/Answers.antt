use Rattle.depot_rows.specs.table_changes.Changed.{rows_of}
use Rattle.label_ops.proofs.Made.{is_made, is_there}
use Rattle.label_ops.proofs.making.make_label.Goals as goal

pub returns-then-there : goal.returns-then-there
returns-then-there c = λ d e has.
    is_there (rows_of c.args.tables.now) d e c.args.label.now c.new-step.result c.in_ok-there.there c.if-there.true (c.in_ok-there.ensures d has) c.new-step.ensures

pub returns-in_ok-step : goal.returns-in_ok-step
returns-in_ok-step c = λ d e has.
    is_made (rows_of c.args.tables.now) d e c.args.label.now c.in_ok-step.step c.in_ok-there.there c.if-there.false (c.in_ok-there.ensures d has) c.in_ok-step.ensures
