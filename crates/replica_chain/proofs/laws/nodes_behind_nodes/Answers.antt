use Rattle.replica_chain.proofs.Prefixes.{behind_on}
use Rattle.replica_chain.proofs.laws.nodes_behind_nodes.Goals as goal

pub returns : goal.returns
returns g c = λ mine theirs told master texts bytes first second.
    behind_on g.D.Disk.says g.met.D.Disk.reads_an_image g.met.D.Disk.within c.args.node.now c.args.up.now mine theirs told master texts bytes first second
