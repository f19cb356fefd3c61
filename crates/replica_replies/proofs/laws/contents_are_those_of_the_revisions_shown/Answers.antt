use Rattle.replica_replies.proofs.Shown.{reply_shown}
use Rattle.replica_replies.proofs.laws.contents_are_those_of_the_revisions_shown.Goals as goal

pub returns : goal.returns
returns c = reply_shown
