use Rattle.job_laws.proofs.Jobs.{folded_jobs}
use Rattle.job_laws.proofs.laws.jobs_are_folded.Goals as goal

pub returns : goal.returns
returns c = folded_jobs
