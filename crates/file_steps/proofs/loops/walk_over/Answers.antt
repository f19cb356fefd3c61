use Rattle.std.proofs.Common.{ℕ, List, take, refl, subst, ◌∙◌}
use Rattle.depot_rows.specs.table_changes.Changed.{rows_of}
use Rattle.depot_rows.specs.depot_model.Deeds.{Deed}
use Rattle.depot_rows.specs.depot_model.Step.{Step as ModelStep, both, nothing, tells}
use Rattle.depot_rows.specs.depot_model.declared.command.FileArgument.{FileArgument}
use Rattle.file_steps.specs.Goes.{Goes}
use Rattle.file_steps.proofs.Going.{done_for, goes_from, over_on}
use Rattle.file_steps.proofs.loops.walk_over.Goals as goal

pub loop-i-init : goal.loop-i-init
loop-i-init g c = record {
  goes = λ before d reads stands. (
    nothing,
    before,
    goes_from (g.A.WalkAct.stands c.args.act.now c.args.set.now before (rows_of c.args.tables.now) d) (rows_of c.args.tables.now) d d c.new-step.result c.new-step.ensures stands,
    refl,
  );
  same = refl;
}

pub loop-i-preserved : goal.loop-i-preserved
loop-i-preserved g c =
    let at = c.loop-i in
    let set = c.args.set.now in
    let rows = rows_of c.args.tables.now in
    let acts = g.A.WalkAct.acts c.args.act.now in
    let missing = λ (a : FileArgument). tells (g.S.FileSet.rows_without set a) in
    let arguments = c.args.arguments.now in
    let argument = c.index-arguments-i.result in
    record {
      goes = λ before d reads stands.
          let now = at.invariant.goes before d reads stands in
          let names = g.S.FileSet.names set d in
          let files = g.S.FileSet.files set d in (
            both now.0 (done_for names files missing (acts d) (take at.i arguments) argument),
            argument,
            subst (λ (f : List Deed → FileArgument → List ℕ → ModelStep). Goes (g.A.WalkAct.stands c.add_argument.new.act set argument rows d) rows d d (both now.0 (done_for names files missing (f d) (take at.i arguments) argument)) c.add_argument.new.step)
                at.invariant.same (c.in_ok-add_argument.ensures.step now.1 d now.0 reads now.2),
            over_on names files missing (acts d) now.0 arguments at.i argument c.loop-i-test.true c.index-arguments-i.is ∙ now.3,
          );
      same = c.in_ok-add_argument.ensures.same ∙ at.invariant.same;
    }
