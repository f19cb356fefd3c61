use Rattle.std.proofs.Common.{List, subst, refl}
use Rattle.depot_rows.specs.table_changes.Changed.{rows_of}
use Rattle.depot_rows.specs.depot_model.Steps.Resolving.{how_of, resolve_one, resolve_row}
use Rattle.depot_rows.specs.Deed.{opening_of, owing_of}
use Rattle.depot_rows.specs.declared.deed.Deed.{Deed as Done}
use Rattle.integ_records.specs.Turns.{Adds}
use Rattle.integ_records.proofs.Adding.{made_more}
use Rattle.integ_records.proofs.turns.add_turn.Goals as goal

pub returns-clause-step : goal.returns-clause-step
returns-clause-step c = λ d e m has was.
    let o = opening_of c.args.opening.now in
    let r = owing_of c.args.owing.now in
    let said = c.in_ok-add.ensures in
    let deeds = (resolve_one d c.args.taking o r).deeds in
    made_more (rows_of c.args.tables.now) d e m c.args.step.now c.in_ok-more.more c.add.new.self c.add_deeds.new.deeds deeds c.in_ok-row.row
    (resolve_row r (how_of c.args.taking)) was
    (subst (λ (old : List Done). Adds old c.add_deeds.new.deeds deeds) c.new-deeds.ensures ((c.in_ok-stays.ensures d has).added))
    c.in_ok-row.ensures refl c.in_ok-more.ensures said.deeds said.rows said.stores said.reads

pub returns-clause-left : goal.returns-clause-left
returns-clause-left c = λ d has. (c.in_ok-stays.ensures d has).left_is
