use Rattle.depot_model.proofs.Told.{later_at, later_somewhere}
use Rattle.depot_model.proofs.laws.later_lines_of_others_change_nothing.Goals as goal

pub returns-clause-at_a_path : goal.returns-clause-at_a_path
returns-clause-at_a_path c = λ d lines line read other caller path need e is apart some. later_at d lines line read other caller e is apart some path need

pub returns-clause-somewhere : goal.returns-clause-somewhere
returns-clause-somewhere c = λ d lines line read other caller need e is apart some. later_somewhere d lines line read other caller e is apart some need
