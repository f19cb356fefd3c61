use Rattle.view_map.proofs.Found.{one_file}
use Rattle.view_map.proofs.laws.one_file_without_overlays.Goals as goal

pub returns : goal.returns
returns c = one_file
