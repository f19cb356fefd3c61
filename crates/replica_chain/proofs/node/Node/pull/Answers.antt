use Rattle.replica_chain.proofs.Followed.{stopped_rested}
use Rattle.replica_chain.proofs.Rests.{emptied_can, rested_fewer, to_emptied}
use Rattle.replica_chain.proofs.node.Node.pull.Goals as goal

pub returns-in-Err-clause-can : goal.returns-in-Err-clause-can
returns-in-Err-clause-can g c = emptied_can g.D.Disk.says c.pull_on.new.self c.new.result c.new.ensures c.pull_on.ensures.can

pub returns-in-Err-clause-stopped : goal.returns-in-Err-clause-stopped
returns-in-Err-clause-stopped g c =
    stopped_rested c.args.self.now c.pull_on.new.self c.new.result g.D.Disk.says g.L.Link.says (g.C.Contents.tells c.pull_on.new.contents) c.pull_on.new.link c.in-Err.fault c.in-Err.ensures.stopped

pub returns-in-Err-clause-node : goal.returns-in-Err-clause-node
returns-in-Err-clause-node g c = λ chronicle n. rested_fewer g.D.Disk.says c.pull_on.new.self chronicle c.new.result (c.pull_on.ensures.node chronicle n)

pub returns-in-Err-clause-behind : goal.returns-in-Err-clause-behind
returns-in-Err-clause-behind g c = λ chronicle up told bytes groups b.
    to_emptied g.D.Disk.says c.args.self.now c.pull_on.new.self c.new.result c.new.ensures chronicle up (g.L.Link.says.tells c.pull_on.new.link) (g.C.Contents.tells c.pull_on.new.contents)
    (c.pull_on.ensures.behind chronicle up told bytes groups b)

pub returns-in-Err-clause-link_reached : goal.returns-in-Err-clause-link_reached
returns-in-Err-clause-link_reached g c = c.pull_on.ensures.link_reached

pub returns-in-Err-clause-contents_reached : goal.returns-in-Err-clause-contents_reached
returns-in-Err-clause-contents_reached g c = c.pull_on.ensures.contents_reached

pub returns-in-Ok-clause-link_reached : goal.returns-in-Ok-clause-link_reached
returns-in-Ok-clause-link_reached g c = c.pull_on.ensures.link_reached

pub returns-in-Ok-clause-contents_reached : goal.returns-in-Ok-clause-contents_reached
returns-in-Ok-clause-contents_reached g c = c.pull_on.ensures.contents_reached

pub returns-in-Err-clause-keeps : goal.returns-in-Err-clause-keeps
returns-in-Err-clause-keeps g c = c.pull_on.ensures.keeps

pub returns-in-Ok-clause-keeps : goal.returns-in-Ok-clause-keeps
returns-in-Ok-clause-keeps g c = c.pull_on.ensures.keeps
