use Rattle.shelf_laws.proofs.History.{shelves_apart}
use Rattle.shelf_laws.proofs.laws.shelves_change_no_history.Goals as goal

pub returns : goal.returns
returns c = shelves_apart
