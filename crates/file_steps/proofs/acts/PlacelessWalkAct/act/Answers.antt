use Rattle.std.proofs.Common.{refl}
use Rattle.file_steps.proofs.acts.PlacelessWalkAct.act.Goals as goal

pub returns-clause-step : goal.returns-clause-step
returns-clause-step g c = λ set d e stands. c.in_ok-step.ensures d e stands.0 stands.1

pub returns-clause-comes : goal.returns-clause-comes
returns-clause-comes g c = λ set d e stands. (stands.0, g.met.A.FileAct.next c.args.self.now.act.now d e c.args.argument.now c.args.path.now stands.1)

pub returns-clause-same : goal.returns-clause-same
returns-clause-same g c = refl
