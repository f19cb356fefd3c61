use Rattle.needed_tables.proofs.Fitting.{fit_alike}
use Rattle.needed_tables.proofs.laws.changes_fit_alike.Goals as goal

pub returns : goal.returns
returns c = fit_alike
