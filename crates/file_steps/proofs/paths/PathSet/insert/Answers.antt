use Rattle.std.proofs.Common.{ap, ◌∙◌}
use Rattle.depot_rows.specs.depot_model.Sorted.{path_inserted}
use Rattle.file_steps.proofs.Inserting.{inserted_is}
use Rattle.file_steps.proofs.paths.PathSet.insert.Goals as goal

pub returns-clause-ok : goal.returns-clause-ok
returns-clause-ok c = c.in_ok-insert.ensures.keys ∙ inserted_is c.args.path c.self.inside.paths.keys ∙ ap (path_inserted c.args.path) c.self.view_is
