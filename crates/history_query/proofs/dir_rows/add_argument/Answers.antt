use Rattle.std.proofs.Common.{ℕ, List, ◌++◌, ap, ◌∙◌, append_assoc}
use Rattle.depot_rows.specs.depot_model.declared.reply.Row.{Row}
use Rattle.history_query.specs.Directories.{missing_rows, new_rows, taken_after, texts_of}
use Rattle.history_query.proofs.dir_rows.add_argument.Goals as goal

pub returns-clause-rows : goal.returns-clause-rows
returns-clause-rows c = λ d sound asked has.
    let caller = c.args.caller.now in
    let argument = c.args.argument.now in
    let old : List Row = c.args.rows.now in
    let taken : List (List ℕ) = c.args.taken.now in
    let told = texts_of d caller argument in
    let found = c.in_ok-found.ensures d sound asked has in
    c.in_ok-add_rows.ensures
    ∙ (λ i. c.in_ok-add_missing.ensures i ++ new_rows taken ((c.as_slice-2.ensures ∙ found) i))
    ∙ (λ i. (old ++ missing_rows argument ((c.as_slice.ensures ∙ found) i)) ++ new_rows taken told)
    ∙ append_assoc old (missing_rows argument told) (new_rows taken told)

pub returns-clause-taken : goal.returns-clause-taken
returns-clause-taken c = λ d sound asked has.
    c.in_ok-take.ensures ∙ ap (taken_after c.args.taken.now) (c.in_ok-found.ensures d sound asked has)
