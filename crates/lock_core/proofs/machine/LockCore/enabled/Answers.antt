use Rattle.std.proofs.Common.{◌∙◌}
use Rattle.lock_core.proofs.Counterparts.{enabled_same}
use Rattle.lock_core.proofs.machine.LockCore.enabled.Goals as goal

pub returns : goal.returns
returns c = λ start s shows. c.may_go.ensures ∙ enabled_same start c.args.self.now s c.args.party shows
