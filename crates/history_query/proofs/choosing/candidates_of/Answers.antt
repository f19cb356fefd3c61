use Rattle.std.proofs.Common.{ℕ, Bool, List, false, sym, ap, ◌∙◌}
use Rattle.std.specs.Prelude.{filter, is_some}
use Rattle.depot_rows.specs.depot_model.Arguments.{names}
use Rattle.depot_rows.specs.depot_model.Steps.Listing.{chosen_revision}
use Rattle.named_files.specs.Listed.{files_of}
use Rattle.named_files.proofs.Selection.{both_tests}
use Rattle.history_query.proofs.choosing.candidates_of.Goals as goal

pub returns-then-asks_for_none-clause-paths : goal.returns-then-asks_for_none-clause-paths
returns-then-asks_for_none-clause-paths c = λ d reads.
    let caller = c.args.shown.now.caller.now in
    let a = c.args.argument.now in
    let chosen : List ℕ → Bool = λ path. is_some (chosen_revision d caller a path) in
    let named = names false d caller a.spec in
    both_tests chosen named c.in_ok-newest.newest ∙ ap (filter chosen) (c.in_ok-newest.ensures.paths d reads)
    ∙ sym (both_tests chosen named (files_of c.args.shown.now.listing.now d))
