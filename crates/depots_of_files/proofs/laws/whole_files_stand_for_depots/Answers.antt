use Rattle.recovery.proofs.Whole.{hold_of}
use Rattle.depots_of_files.proofs.Whole.{some_depot}
use Rattle.depots_of_files.proofs.laws.whole_files_stand_for_depots.Goals as goal

pub returns-clause-some : goal.returns-clause-some
returns-clause-some c = some_depot

pub returns-clause-no_others : goal.returns-clause-no_others
returns-clause-no_others c = λ journal archive d stands. (stands.rows, hold_of d journal archive stands)
