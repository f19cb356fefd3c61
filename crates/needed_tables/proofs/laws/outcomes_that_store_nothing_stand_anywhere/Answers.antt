use Rattle.needed_tables.proofs.Whole.{outcome_anywhere}
use Rattle.needed_tables.proofs.laws.outcomes_that_store_nothing_stand_anywhere.Goals as goal

pub returns : goal.returns
returns c = outcome_anywhere
