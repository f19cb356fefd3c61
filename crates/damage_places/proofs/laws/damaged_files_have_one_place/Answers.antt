use Rattle.damage_places.proofs.Places.{damage_once}
use Rattle.damage_places.proofs.laws.damaged_files_have_one_place.Goals as goal

pub returns : goal.returns
returns c = λ journal archive disk other_disk file other_file place other_place short a b. damage_once journal short archive disk other_disk file other_file place other_place a b
