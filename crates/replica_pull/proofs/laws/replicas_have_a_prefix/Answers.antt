use Rattle.replica_pull.proofs.Firsts.{first_changes}
use Rattle.replica_pull.proofs.Followed.{has_prefix}
use Rattle.replica_pull.proofs.laws.replicas_have_a_prefix.Goals as goal

pub returns-clause-prefix : goal.returns-clause-prefix
returns-clause-prefix c = has_prefix

pub returns-clause-first : goal.returns-clause-first
returns-clause-first c = first_changes
