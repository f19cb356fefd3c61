use Rattle.job_laws.proofs.Showing.{fixes_listed, folded_listed}
use Rattle.job_laws.proofs.laws.fixes_are_listed_as_folded.Goals as goal

pub returns-clause-listed : goal.returns-clause-listed
returns-clause-listed c = fixes_listed

pub returns-clause-folded : goal.returns-clause-folded
returns-clause-folded c = folded_listed
