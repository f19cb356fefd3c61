use Rattle.std.proofs.Common.{◌≡◌, [], ap, subst, ◌∙◌}
use Rattle.depot_rows.specs.depot_model.Arguments.{everything, not_in}
use Rattle.depot_rows.specs.depot_model.Step.{Step as ModelStep, all_of, nothing}
use Rattle.depot_rows.specs.table_changes.Changed.{rows_of}
use Rattle.reply_rows.specs.Made.{IsMade}
use Rattle.file_steps.proofs.Going.{everything_done, found, goes_from}
use Rattle.file_steps.proofs.loops.walk_over_everything.Goals as goal

pub returns : goal.returns
returns g c = λ before d reads stands.
    let set = c.args.set.now in
    let act_of = c.args.act.now in
    let rows = rows_of c.args.tables.now in
    let own = found (g.S.FileSet.names set d) (g.S.FileSet.files set d) everything in
    let act = g.A.WalkAct.acts act_of d in
    let whole : c.in_ok-argument.argument ≡ everything = c.in_ok-argument.ensures in
    let are : c.in_ok-paths.paths ≡ own =
    c.in_ok-paths.ensures.paths d reads ∙ ap (λ a. found (g.S.FileSet.names set d) (g.S.FileSet.files set d) a) whole in
    let from = goes_from (g.A.WalkAct.stands c.find.new.self set c.in_ok-argument.argument rows d) rows d d c.new-step.result c.new-step.ensures (c.in_ok-paths.ensures.comes before d d stands) in
    let goes = c.in_ok-add_files.ensures.step d nothing reads from in
    let done = (λ i. all_of (c.in_ok-paths.ensures.same i d (whole i)) (not_in [] ((c.as_slice.ensures ∙ are) i))) ∙ everything_done (act everything) own in
    subst (λ (x : ModelStep). IsMade (rows_of c.args.tables.now) d d x c.add_files.new.step) done goes.made
