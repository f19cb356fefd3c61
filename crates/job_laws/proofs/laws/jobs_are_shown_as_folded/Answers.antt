use Rattle.job_laws.proofs.Showing.{jobs_shown}
use Rattle.job_laws.proofs.laws.jobs_are_shown_as_folded.Goals as goal

pub returns : goal.returns
returns c = jobs_shown
