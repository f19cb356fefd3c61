use Rattle.view_map.proofs.Exchange.{turned}
use Rattle.view_map.proofs.BothWays.{carried_back}
use Rattle.view_map.proofs.laws.lines_go_both_ways.Goals as goal

pub returns-clause-back : goal.returns-clause-back
returns-clause-back c = λ line file path h f e. carried_back line.depot line.client file path h f e

pub returns-clause-forth : goal.returns-clause-forth
returns-clause-forth c = λ line file path h f e. carried_back line.client line.depot path file (turned line.depot line.client h) f e
