use Rattle.shelf_laws.proofs.Keeping.{kept_as_shelved}
use Rattle.shelf_laws.proofs.laws.kept_files_are_those_last_shelved.Goals as goal

pub returns : goal.returns
returns c = kept_as_shelved
