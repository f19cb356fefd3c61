use Rattle.replica_pull.proofs.Fronts.{begun, passed, taken, longer, earlier_front}
use Rattle.replica_pull.proofs.laws.replicas_take_whole_groups.Goals as goal

pub returns-clause-begun : goal.returns-clause-begun
returns-clause-begun c = begun

pub returns-clause-passed : goal.returns-clause-passed
returns-clause-passed c = passed

pub returns-clause-taken : goal.returns-clause-taken
returns-clause-taken c = taken

pub returns-clause-longer : goal.returns-clause-longer
returns-clause-longer c = longer

pub returns-clause-earlier : goal.returns-clause-earlier
returns-clause-earlier c = earlier_front
