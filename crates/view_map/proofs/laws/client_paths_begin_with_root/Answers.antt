use Rattle.view_map.proofs.Root.{below_root}
use Rattle.view_map.proofs.laws.client_paths_begin_with_root.Goals as goal

pub returns : goal.returns
returns c = below_root
