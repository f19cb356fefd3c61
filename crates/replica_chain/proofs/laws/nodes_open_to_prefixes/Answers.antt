use Rattle.replica_chain.proofs.Prefixes.{opens}
use Rattle.replica_chain.proofs.laws.nodes_open_to_prefixes.Goals as goal

pub returns : goal.returns
returns g c = λ mine theirs bytes after master behind. opens theirs bytes after master g.D.Disk.says c.args.node.now mine behind
