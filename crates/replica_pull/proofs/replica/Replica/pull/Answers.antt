use Rattle.std.proofs.Common.{inl, refl}
use Rattle.outside_api.specs.Reaching.{Reaches}
use Rattle.replica_pull.proofs.GoodFeeds.{no_bad_feed}
use Rattle.replica_pull.proofs.replica.Replica.pull.Goals as goal

pub returns-in_err-piece-clause-grows : goal.returns-in_err-piece-clause-grows
returns-in_err-piece-clause-grows g c = λ before told. (before, (told, inl refl))

pub returns-clause-moved : goal.returns-clause-moved
returns-clause-moved g c = c.pull_into-moved.ensures.moved

pub returns-clause-stopped : goal.returns-clause-stopped
returns-clause-stopped g c = c.pull_into-moved.ensures.stopped

pub returns-clause-cause : goal.returns-clause-cause
returns-clause-cause g c = c.pull_into-moved.ensures.cause

pub returns-clause-grows : goal.returns-clause-grows
returns-clause-grows g c = c.pull_into-moved.ensures.grows

pub returns-clause-good : goal.returns-clause-good
returns-clause-good g c = λ rules before told p masters.
    no_bad_feed rules before c.args.self.now (g.L.Link.says.tells c.pull_into-moved.new.link) p (c.pull_into-moved.ensures.grows before told) masters c.pull_into-moved.result c.pull_into-moved.ensures.stopped

pub returns-in_err-piece-clause-reached : goal.returns-in_err-piece-clause-reached
returns-in_err-piece-clause-reached g c = Reaches.stays

pub returns-clause-reached : goal.returns-clause-reached
returns-clause-reached g c = c.pull_into-moved.ensures.reached
