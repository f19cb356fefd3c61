use Rattle.shelf_laws.proofs.Unshelving.{unshelves_so}
use Rattle.shelf_laws.proofs.laws.unshelving_opens_what_was_last_shelved.Goals as goal

pub returns : goal.returns
returns c = unshelves_so
