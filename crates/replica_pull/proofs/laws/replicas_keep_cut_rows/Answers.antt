use Rattle.replica_pull.proofs.Kept.{begun, taken, passed}
use Rattle.replica_pull.proofs.laws.replicas_keep_cut_rows.Goals as goal

pub returns-clause-begun : goal.returns-clause-begun
returns-clause-begun c = begun

pub returns-clause-taken : goal.returns-clause-taken
returns-clause-taken c = taken

pub returns-clause-passed : goal.returns-clause-passed
returns-clause-passed c = passed
