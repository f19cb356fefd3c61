use Rattle.view_map.proofs.Start.{some_begins}
use Rattle.view_map.proofs.view.View.beginnings.Goals as goal

pub returns-clause-every : goal.returns-clause-every
returns-clause-every c = λ file path e b. some_begins c.args.self.now c.args.start.now file path c.lines.ensures.paired e b
