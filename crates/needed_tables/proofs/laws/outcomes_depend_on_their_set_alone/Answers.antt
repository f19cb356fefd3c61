use Rattle.needed_tables.proofs.Whole.{outcome_alike}
use Rattle.needed_tables.proofs.laws.outcomes_depend_on_their_set_alone.Goals as goal

pub returns : goal.returns
returns c = outcome_alike
