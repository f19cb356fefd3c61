use Rattle.shelf_laws.proofs.Landing.{none_lands}
use Rattle.shelf_laws.proofs.laws.no_change_lands_with_kept_files.Goals as goal

pub returns : goal.returns
returns c = none_lands
