use Rattle.std.proofs.Common.{◌∙◌}
use Rattle.have_sync.proofs.syncing.SyncingWalkActShownFiles.find.Goals as goal

pub returns-clause-paths : goal.returns-clause-paths
returns-clause-paths c = λ d reads. c.in_ok-named.ensures d reads ∙ c.in_ok-candidates.ensures.paths d reads

pub returns-clause-comes : goal.returns-clause-comes
returns-clause-comes c = λ before d e stands. (stands.0, c.in_ok-candidates.ensures.places stands.1)
