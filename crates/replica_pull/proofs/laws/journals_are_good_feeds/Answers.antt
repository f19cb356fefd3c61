use Rattle.replica_pull.proofs.GoodFeeds.{never_bad}
use Rattle.replica_pull.proofs.laws.journals_are_good_feeds.Goals as goal

pub returns : goal.returns
returns c = λ rules journal earlier generations r buffer n place p good was answers bad. never_bad rules journal earlier generations r p good was n place buffer answers bad
