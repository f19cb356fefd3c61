use Rattle.std.proofs.Common.{◌≡◌, ℕ, List, [], true, false, sym, ap, subst, ◌∙◌, ◌++◌}
use Rattle.depot_rows.specs.depot_model.Arguments.{is_in, not_in}
use Rattle.depot_rows.specs.depot_model.Step.{Step as ModelStep, after, all_of, both, tells}
use Rattle.depot_rows.specs.table_changes.Changed.{rows_of}
use Rattle.file_steps.specs.Goes.{Goes}
use Rattle.file_steps.proofs.Going.{each_of_none, each_of_some, turn_on}
use Rattle.file_steps.proofs.Spelling.{alike_still}
use Rattle.file_steps.proofs.spelled.add_argument.Goals as goal

pub returns-clause-goes : goal.returns-clause-goes
returns-clause-goes g c = λ d model spells reads may goes.
    let act_of = c.args.act.now in
    let argument = c.args.argument.now in
    let act = g.A.FileAct.acts act_of d argument in
    let missing = tells (g.F.FileFinder.rows_without c.args.finder.now argument) in
    let own = g.F.FileFinder.found c.args.finder.now d argument in
    let left = not_in c.args.taken.now own in
    let are : c.in_ok-paths.paths ≡ own = c.in_ok-paths.ensures d spells reads in
    let some : own ≡ [] → ⊥ = λ none. let empty : true ≡ false = sym (c.is_empty.ensures.1 (are ∙ none)) ∙ c.if-is_empty.false in absurd cc in
    let done = ap (λ (x : List (List ℕ)). all_of act (not_in c.args.taken.now x)) (c.as_slice.ensures ∙ are) ∙ sym (each_of_some missing act own left some) in
    subst (λ (x : ModelStep). Goes (g.A.FileAct.is_later act_of d) (rows_of c.args.tables.now) d d (both model x) c.add_files.new.step) done (c.in_ok-add_files.ensures d model may goes)

pub returns-clause-taken : goal.returns-clause-taken
returns-clause-taken g c = λ d spells reads path.
    c.in_ok-take.ensures path ∙ ap (λ (x : List (List ℕ)). is_in (c.args.taken.now ++ x) path) (c.in_ok-paths.ensures d spells reads)

pub returns-then-is_empty-clause-goes : goal.returns-then-is_empty-clause-goes
returns-then-is_empty-clause-goes g c = λ d model spells reads may goes.
    let act_of = c.args.act.now in
    let rows = rows_of c.args.tables.now in
    let argument = c.args.argument.now in
    let act = g.A.FileAct.acts act_of d argument in
    let missing = tells (g.F.FileFinder.rows_without c.args.finder.now argument) in
    let later = g.A.FileAct.is_later act_of d in
    let own = g.F.FileFinder.found c.args.finder.now d argument in
    let left = not_in c.args.taken.now own in
    let none : own ≡ [] = sym (c.in_ok-paths.ensures d spells reads) ∙ c.is_empty.ensures.0 c.if-is_empty.true in
    let said = c.in_ok-add.ensures in
    let done =
    turn_on later later rows d d model missing c.args.step.now c.in_ok-more.more c.add.new.self goes (c.in_ok-more.ensures rows d (after d model.deeds) spells) goes.there said.deeds
    said.rows said.stores said.reads in
    subst (λ (x : ModelStep). Goes later rows d d (both model x) c.add.new.self) (sym (each_of_none missing act own left none)) done

pub returns-then-is_empty-clause-taken : goal.returns-then-is_empty-clause-taken
returns-then-is_empty-clause-taken g c = λ d spells reads path.
    let own = g.F.FileFinder.found c.args.finder.now d c.args.argument.now in
    let none : own ≡ [] = sym (c.in_ok-paths.ensures d spells reads) ∙ c.is_empty.ensures.0 c.if-is_empty.true in
    alike_still c.args.taken.now own none path
