use Rattle.replica_pull.proofs.Standing.{stands_cut}
use Rattle.replica_pull.proofs.laws.replicas_stand_for_cut_depots.Goals as goal

pub returns : goal.returns
returns c = stands_cut
