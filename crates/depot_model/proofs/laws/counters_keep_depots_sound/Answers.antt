use Rattle.depot_model.proofs.Counting.{counted_is_sound}
use Rattle.depot_model.proofs.laws.counters_keep_depots_sound.Goals as goal

pub returns : goal.returns
returns c = λ d name value sound named free. counted_is_sound name value named free d sound
