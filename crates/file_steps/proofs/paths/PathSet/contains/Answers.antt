use Rattle.std.proofs.Common.{List, ℕ, ap, ◌∙◌}
use Rattle.depot_rows.specs.depot_model.Arguments.{is_in}
use Rattle.file_steps.proofs.Inserting.{contains_is}
use Rattle.file_steps.proofs.paths.PathSet.contains.Goals as goal

pub returns : goal.returns
returns c =
    c.contains.ensures ∙ contains_is c.args.path.now c.self.inside.paths.keys ∙ ap (λ (paths : List (List ℕ)). is_in paths c.args.path.now) c.self.view_is
