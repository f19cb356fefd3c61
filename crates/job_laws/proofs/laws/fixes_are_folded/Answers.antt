use Rattle.job_laws.proofs.Fixes.{folded_fixes}
use Rattle.job_laws.proofs.laws.fixes_are_folded.Goals as goal

pub returns : goal.returns
returns c = folded_fixes
