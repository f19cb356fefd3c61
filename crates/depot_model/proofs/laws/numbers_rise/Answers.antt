use Rattle.depot_model.proofs.Risen.{never_falls, landed_at_most, lands_above}
use Rattle.depot_model.proofs.laws.numbers_rise.Goals as goal

pub returns-clause-never_falls : goal.returns-clause-never_falls
returns-clause-never_falls c = never_falls

pub returns-clause-landed : goal.returns-clause-landed
returns-clause-landed c = landed_at_most

pub returns-clause-lands_above : goal.returns-clause-lands_above
returns-clause-lands_above c = lands_above
