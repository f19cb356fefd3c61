use Rattle.depot_rows.specs.table_changes.Changed.{rows_of}
use Rattle.depot_rows.specs.depot_model.Step.{after}
use Rattle.file_steps.proofs.Going.{turn_on}
use Rattle.file_steps.proofs.turns.add_turn.Goals as goal

pub returns-clause-step : goal.returns-clause-step
returns-clause-step g c = λ d e model goes.
    let now = after e model.deeds in
    let stands = g.A.TurnAct.stands in
    let rows = rows_of c.args.tables.now in
    turn_on (stands c.args.act.now rows d) (stands c.act.new.self rows d) rows d e model (g.A.TurnAct.acts c.args.act.now d now c.args.path.now) c.args.step.now
    c.in_ok-more.more c.add.new.self goes (c.in_ok-more.ensures.step d now goes.there) (c.in_ok-more.ensures.comes d now goes.there) c.in_ok-add.ensures.deeds
    c.in_ok-add.ensures.rows c.in_ok-add.ensures.stores c.in_ok-add.ensures.reads
