use Rattle.replica_chain.proofs.Looked.{read_can, read_node}
use Rattle.replica_chain.proofs.node.Node.verify.Goals as goal

pub returns-clause-node : goal.returns-clause-node
returns-clause-node g c = read_node g.D.Disk.says c.args.self.now c.verify_rows.new.archive c.verify_rows.ensures.reads c.verify_rows.ensures.used

pub returns-clause-can : goal.returns-clause-can
returns-clause-can g c = read_can g.D.Disk.says c.args.self.now c.verify_rows.new.archive c.verify_rows.ensures.reads c.verify_rows.ensures.used
