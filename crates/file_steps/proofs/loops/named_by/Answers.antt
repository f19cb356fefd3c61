use Rattle.std.proofs.Common.{◌∙◌}
use Rattle.file_steps.proofs.loops.named_by.Goals as goal

pub returns : goal.returns
returns g c = λ d reads. c.in_ok-named.ensures d reads ∙ c.in_ok-candidates.ensures d reads
