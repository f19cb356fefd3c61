use Rattle.std.proofs.Common.{sym, ◌∙◌}
use Rattle.depot_rows.specs.table_changes.Changed.{rows_of}
use Rattle.depot_rows.specs.depot_model.Arguments.{is_in}
use Rattle.depot_rows.specs.depot_model.Step.{after}
use Rattle.file_steps.proofs.Going.{file_done}
use Rattle.file_steps.proofs.spelled.add_file.Goals as goal

pub returns : goal.returns
returns g c = λ d model own goes.
    let act_of = c.args.act.now in
    let after_it = after d model.deeds in
    file_done (g.A.FileAct.is_later act_of d) (g.A.FileAct.is_later act_of d) (rows_of c.args.tables.now) d d model (g.A.FileAct.acts act_of d c.args.argument.now c.args.path.now) c.args.step.now c.in_ok-more.more c.add.new.self
    (is_in c.args.taken.now c.args.path.now) (sym c.contains.ensures ∙ c.if-contains.false) goes
    (c.in_ok-more.ensures d after_it own goes.there) (g.met.A.FileAct.next act_of d after_it c.args.argument.now c.args.path.now goes.there)
    c.in_ok-add.ensures.deeds c.in_ok-add.ensures.rows c.in_ok-add.ensures.stores c.in_ok-add.ensures.reads
