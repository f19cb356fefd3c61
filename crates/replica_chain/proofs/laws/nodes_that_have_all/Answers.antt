use Rattle.replica_chain.proofs.Whole.{all_stand, has_all}
use Rattle.replica_chain.proofs.laws.nodes_that_have_all.Goals as goal

pub returns-clause-all : goal.returns-clause-all
returns-clause-all g c = has_all g.D.Disk.says c.args.node.now

pub returns-clause-opens : goal.returns-clause-opens
returns-clause-opens g c = all_stand g.D.Disk.says c.args.node.now
