use Rattle.step_limits.proofs.Whole.{request_keeps_generation}
use Rattle.step_limits.proofs.laws.steps_keep_the_generation.Goals as goal

pub returns : goal.returns
returns c = λ d request asked. request_keeps_generation d request asked
