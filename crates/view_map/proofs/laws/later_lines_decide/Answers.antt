use Rattle.view_map.proofs.Deciding.{decides, excludes, hidden_later}
use Rattle.view_map.proofs.laws.later_lines_decide.Goals as goal

pub returns-clause-decides : goal.returns-clause-decides
returns-clause-decides c = decides

pub returns-clause-excludes : goal.returns-clause-excludes
returns-clause-excludes c = excludes

pub returns-clause-hides : goal.returns-clause-hides
returns-clause-hides c = hidden_later
