use Rattle.depot_rows.specs.depot_model.Arguments.{everything}
use Rattle.file_steps.proofs.loops.over.Goals as goal

pub returns : goal.returns
returns g c = λ d reads own. c.in_ok-step.ensures everything d reads (own, g.met.A.FileAct.first c.args.act.now d)
