use Rattle.job_laws.proofs.Renumbered.{fixes_follow}
use Rattle.job_laws.proofs.laws.fixes_go_with_their_change.Goals as goal

pub returns : goal.returns
returns c = fixes_follow
