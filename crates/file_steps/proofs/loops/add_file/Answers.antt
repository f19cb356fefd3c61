use Rattle.std.proofs.Common.{Bool, sym, ap, ◌∙◌}
use Rattle.std.specs.Prelude.{if◌then◌else◌}
use Rattle.std.specs.List.{list_any}
use Rattle.depot_rows.specs.table_changes.Changed.{rows_of}
use Rattle.depot_rows.specs.depot_model.Step.{after, nothing}
use Rattle.file_steps.proofs.Going.{file_done, goes_nowhere}
use Rattle.file_steps.proofs.loops.add_file.Goals as goal

pub returns-then-taken-clause-step : goal.returns-then-taken-clause-step
returns-then-taken-clause-step g c = λ d model reads goes.
    let set = c.args.set.now in
    let rows = rows_of c.args.tables.now in
    let more = g.A.WalkAct.acts c.args.act.now d c.args.argument.now c.args.path.now in
    let taken = list_any (λ a. g.S.FileSet.names set d a c.args.path.now) c.args.earlier.now in
    goes_nowhere (g.A.WalkAct.stands c.args.act.now set c.args.argument.now rows d) rows d d model (if taken then nothing else more) c.args.step.now goes
    (ap (λ (b : Bool). if b then nothing else more) (sym (c.in_ok-taken.ensures d reads) ∙ c.if-taken.true))

pub returns-clause-step : goal.returns-clause-step
returns-clause-step g c = λ d model reads goes.
    let set = c.args.set.now in
    let rows = rows_of c.args.tables.now in
    let argument = c.args.argument.now in
    let stands = g.A.WalkAct.stands in
    let after_it = after d model.deeds in
    file_done (stands c.args.act.now set argument rows d) (stands c.act.new.self set argument rows d) rows d d model (g.A.WalkAct.acts c.args.act.now d argument c.args.path.now) c.args.step.now c.in_ok-more.more
    c.add.new.self (list_any (λ a. g.S.FileSet.names set d a c.args.path.now) c.args.earlier.now) (sym (c.in_ok-taken.ensures d reads) ∙ c.if-taken.false) goes
    (c.in_ok-more.ensures.step set d after_it goes.there) (c.in_ok-more.ensures.comes set d after_it goes.there)
    c.in_ok-add.ensures.deeds c.in_ok-add.ensures.rows c.in_ok-add.ensures.stores c.in_ok-add.ensures.reads
