use Rattle.replica_chain.proofs.Looked.{looked_can, looked_link, looked_node}
use Rattle.replica_chain.proofs.node.Node.departs.Goals as goal

pub returns-clause-links : goal.returns-clause-links
returns-clause-links g c = (
  looked_link g.D.Disk.says c.args.self.now.link c.first_departure.new.node c.first_departure.ensures.node_looked,
  looked_link g.D.Disk.says c.args.up.now.link c.first_departure.new.up c.first_departure.ensures.up_looked,
)

pub returns-clause-nodes : goal.returns-clause-nodes
returns-clause-nodes g c = λ chronicle. (
  looked_node g.D.Disk.says c.args.self.now _ (looked_link g.D.Disk.says c.args.self.now.link c.first_departure.new.node c.first_departure.ensures.node_looked) chronicle,
  looked_node g.D.Disk.says c.args.up.now _ (looked_link g.D.Disk.says c.args.up.now.link c.first_departure.new.up c.first_departure.ensures.up_looked) chronicle,
)

pub returns-clause-can : goal.returns-clause-can
returns-clause-can g c = (
  looked_can g.D.Disk.says c.args.self.now _ (looked_link g.D.Disk.says c.args.self.now.link c.first_departure.new.node c.first_departure.ensures.node_looked),
  looked_can g.D.Disk.says c.args.up.now _ (looked_link g.D.Disk.says c.args.up.now.link c.first_departure.new.up c.first_departure.ensures.up_looked),
)
