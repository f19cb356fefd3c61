use Rattle.std.proofs.Common.{ap, sym, ◌∙◌}
use Rattle.depot_path.specs.Path.{is_path}
use Rattle.view_map.proofs.Found.{maps_there, is_there, all_once}
use Rattle.view_map.proofs.view.View.to_depot.Goals as goal

pub returns-clause-exactly : goal.returns-clause-exactly
returns-clause-exactly c = λ file p. (
  maps_there c.args.self.now c.args.path.now file c.lines.ensures.paired (ap is_path (sym c.as_bytes-bytes.ensures.value) ∙ c.as_bytes-bytes.ensures.path),
  is_there c.args.self.now c.args.path.now file c.lines.ensures.paired p,
)

pub returns-clause-once : goal.returns-clause-once
returns-clause-once c = all_once c.args.self.now c.args.path.now c.lines.ensures.paired (ap is_path (sym c.as_bytes-bytes.ensures.value) ∙ c.as_bytes-bytes.ensures.path)
