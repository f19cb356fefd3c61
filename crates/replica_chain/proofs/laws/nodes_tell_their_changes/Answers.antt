use Rattle.replica_chain.proofs.Told.{archive_tells, node_tells, told_texts}
use Rattle.replica_chain.proofs.laws.nodes_tell_their_changes.Goals as goal

pub returns-clause-tells : goal.returns-clause-tells
returns-clause-tells g c = node_tells g.D.Disk.says g.met.D.Disk.reads_an_image c.args.node.now

pub returns-clause-only : goal.returns-clause-only
returns-clause-only g c = λ chronicle texts n told. told_texts g.D.Disk.says g.met.D.Disk.reads_an_image g.met.D.Disk.within c.args.node.now chronicle n texts told

pub returns-clause-groups : goal.returns-clause-groups
returns-clause-groups g c = λ texts told. (told.generations, told.of_groups)

pub returns-clause-contents : goal.returns-clause-contents
returns-clause-contents g c = archive_tells g.D.Disk.says g.met.D.Disk.reads_an_image c.args.node.now
