use Rattle.depot_model.proofs.Told.{same_counters}
use Rattle.depot_model.proofs.laws.same_rows_tell_same_counters.Goals as goal

pub returns : goal.returns
returns c = same_counters
