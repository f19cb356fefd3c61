use Rattle.shelf_laws.proofs.Shelving.{shelves_alone}
use Rattle.shelf_laws.proofs.laws.shelving_saves_forms_alone.Goals as goal

pub returns : goal.returns
returns c = shelves_alone
