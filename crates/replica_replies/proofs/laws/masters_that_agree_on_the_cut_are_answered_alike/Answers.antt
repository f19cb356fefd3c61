use Rattle.replica_replies.proofs.Alike.{masters_alike}
use Rattle.replica_replies.proofs.laws.masters_that_agree_on_the_cut_are_answered_alike.Goals as goal

pub returns : goal.returns
returns c = masters_alike
