use Rattle.depot_model.proofs.Empty.{empty_is_sound}
use Rattle.depot_model.proofs.laws.empty_depot_is_sound.Goals as goal

pub returns : goal.returns
returns c = empty_is_sound
