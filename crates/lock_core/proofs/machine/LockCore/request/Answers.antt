use Rattle.std.proofs.Common.{◌∙◌}
use Rattle.lock_core.proofs.Ended.{its_request}
use Rattle.lock_core.proofs.machine.LockCore.request.Goals as goal

pub returns : goal.returns
returns c = λ start s request commit. c.request_of.ensures ∙ its_request start s c.args.self.now c.args.party request commit
