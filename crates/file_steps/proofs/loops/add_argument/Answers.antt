use Rattle.std.proofs.Common.{◌≡◌, [], true, false, sym, ap, subst, ◌∙◌}
use Rattle.std.specs.Prelude.{filter, flat_map, not}
use Rattle.depot_rows.specs.depot_model.Arguments.{not_in}
use Rattle.depot_rows.specs.depot_model.Step.{Step as ModelStep, after, all_of, both, tells}
use Rattle.depot_rows.specs.table_changes.Changed.{rows_of}
use Rattle.file_steps.specs.Goes.{Goes}
use Rattle.file_steps.proofs.Going.{each_of_none, each_of_some, goes_on, left_is, found, taken, turn_on}
use Rattle.file_steps.proofs.loops.add_argument.Goals as goal

pub returns-clause-step : goal.returns-clause-step
returns-clause-step g c = λ before d model reads goes.
    let set = c.args.set.now in
    let act_of = c.args.act.now in
    let argument = c.args.argument.now in
    let names = g.S.FileSet.names set d in
    let files = g.S.FileSet.files set d in
    let act = g.A.WalkAct.acts act_of d argument in
    let missing = tells (g.S.FileSet.rows_without set argument) in
    let own = found names files argument in
    let left = not_in (flat_map (found names files) c.args.earlier.now) own in
    let are : c.in_ok-paths.paths ≡ own = c.in_ok-paths.ensures.paths d reads in
    let some : own ≡ [] → ⊥ = λ none. let empty : true ≡ false = sym (c.is_empty.ensures.1 (are ∙ none)) ∙ c.if-is_empty.false in absurd cc in
    let rows = rows_of c.args.tables.now in
    let from =
    goes_on (g.A.WalkAct.stands act_of set before rows d) (g.A.WalkAct.stands c.find.new.self set argument rows d) rows d d model c.args.step.now (c.in_ok-paths.ensures.comes before d) goes in
    let done =
    (λ i. all_of (c.in_ok-paths.ensures.same i d argument) (filter (λ p. not (taken names files c.args.earlier.now p)) ((c.as_slice.ensures ∙ are) i)))
    ∙ ap (all_of act) (sym (left_is names files c.args.earlier.now argument)) ∙ sym (each_of_some missing act own left some) in
    subst (λ (x : ModelStep). Goes (g.A.WalkAct.stands c.add_files.new.act set argument rows d) rows d d (both model x) c.add_files.new.step) done (c.in_ok-add_files.ensures.step d model reads from)

pub returns-then-is_empty-clause-step : goal.returns-then-is_empty-clause-step
returns-then-is_empty-clause-step g c = λ before d model reads goes.
    let set = c.args.set.now in
    let act_of = c.args.act.now in
    let rows = rows_of c.args.tables.now in
    let argument = c.args.argument.now in
    let names = g.S.FileSet.names set d in
    let files = g.S.FileSet.files set d in
    let act = g.A.WalkAct.acts act_of d argument in
    let missing = tells (g.S.FileSet.rows_without set argument) in
    let later = g.A.WalkAct.stands c.find.new.self set argument rows d in
    let from = goes_on (g.A.WalkAct.stands act_of set before rows d) later rows d d model c.args.step.now (c.in_ok-paths.ensures.comes before d) goes in
    let own = found names files argument in
    let left = not_in (flat_map (found names files) c.args.earlier.now) own in
    let none : own ≡ [] = sym (c.in_ok-paths.ensures.paths d reads) ∙ c.is_empty.ensures.0 c.if-is_empty.true in
    let said = c.in_ok-add.ensures in
    let done =
    turn_on later later rows d d model missing c.args.step.now c.in_ok-more.more c.add.new.self from (c.in_ok-more.ensures rows d (after d model.deeds)) from.there said.deeds
    said.rows said.stores said.reads in
    subst (λ (x : ModelStep). Goes later rows d d (both model x) c.add.new.self) (sym (each_of_none missing act own left none)) done
