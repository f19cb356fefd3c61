use Rattle.std.proofs.Common.{ℕ, List, [], sym, ap, ◌∙◌}
use Rattle.std.specs.Prelude.{flat_map}
use Rattle.depot_rows.specs.depot_model.Arguments.{submitted}
use Rattle.named_files.specs.Asked.{is_begun}
use Rattle.history_query.specs.Directories.{all_fitting, directories_of}
use Rattle.history_query.proofs.Above.{all_alone, begun_of, submitted_are_paths}
use Rattle.history_query.proofs.directories.by_files.Goals as goal

pub returns : goal.returns
returns c = λ d sound asked has.
    let caller = c.args.caller.now in
    let asker = c.args.asker.now in
    let pattern = c.args.pattern.now in
    let files : List (List ℕ) = c.in_ok-paths.paths in
    c.in_ok-set.ensures d sound asked has
    ∙ ap (λ (ds : List (List ℕ)). all_fitting pattern ds [])
    (begun_of d caller asker asked pattern files
    ∙ ap (flat_map (directories_of d caller pattern)) (c.in_ok-paths.ensures.depot d sound has (is_begun asker pattern) (λ path e. e))
    ∙ sym (begun_of d caller asker asked pattern (submitted d)))
    ∙ sym (all_alone d caller asker asked pattern (submitted d) (submitted_are_paths d sound))
