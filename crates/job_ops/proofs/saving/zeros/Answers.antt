use Rattle.job_ops.proofs.Numbering.{no_zeros}
use Rattle.job_ops.proofs.saving.zeros.Goals as goal

pub returns-else-digits-lt6 : goal.returns-else-digits-lt6
returns-else-digits-lt6 c = no_zeros c.args.digits c.if-digits-lt6.false
