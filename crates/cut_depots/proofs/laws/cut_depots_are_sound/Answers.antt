use Rattle.cut_depots.proofs.Sound.{cut_sound}
use Rattle.cut_depots.proofs.laws.cut_depots_are_sound.Goals as goal

pub returns : goal.returns
returns c = λ rules d sound. cut_sound rules d sound
