use Rattle.std.proofs.Common.{ap, sym, ◌∙◌}
use Rattle.depot_path.specs.Path.{is_path}
use Rattle.view_map.proofs.Found.{rivals_first}
use Rattle.view_map.proofs.view.View.to_client.Goals as goal

pub returns-clause-rivals_first : goal.returns-clause-rivals_first
returns-clause-rivals_first c = λ path rivals e.
    rivals_first c.args.self.now c.args.file.now path rivals c.lines.ensures.paired (ap is_path (sym c.as_bytes-bytes.ensures.value) ∙ c.as_bytes-bytes.ensures.path) e
