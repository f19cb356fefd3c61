use Rattle.job_fixes.proofs.FixRows.{with_told}
use Rattle.job_fixes.proofs.closing.with.Goals as goal

pub returns-in-Ok : goal.returns-in-Ok
returns-in-Ok c = with_told c.args.field.now c.args.value.now c.args.form.now c.in-Ok.more c.in-Ok.ensures
