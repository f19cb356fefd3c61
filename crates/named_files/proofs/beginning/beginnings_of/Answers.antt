use Rattle.named_files.proofs.Begun.{placed_begun}
use Rattle.named_files.proofs.beginning.beginnings_of.Goals as goal

pub returns-clause-every : goal.returns-clause-every
returns-clause-every c = λ path e. c.in_ok-beginnings.ensures.every path (placed_begun c.args.asker.now c.args.pattern.now path e)
