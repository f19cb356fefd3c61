use Rattle.replica_chain.proofs.Reached.{followed_bytes, followed_node, followed_texts}
use Rattle.replica_chain.proofs.laws.nodes_stay_while_followed.Goals as goal

pub returns-clause-node : goal.returns-clause-node
returns-clause-node g c = λ chronicle followed n. followed_node g.D.Disk.says g.met.D.Disk.only_now c.args.old.now c.args.new.now followed chronicle n

pub returns-clause-texts : goal.returns-clause-texts
returns-clause-texts g c = λ chronicle texts followed n told.
    followed_texts g.D.Disk.says g.met.D.Disk.only_now c.args.old.now c.args.new.now followed g.met.D.Disk.reads_an_image g.met.D.Disk.within chronicle n texts told

pub returns-clause-bytes : goal.returns-clause-bytes
returns-clause-bytes g c = λ before now followed was is. followed_bytes g.D.Disk.says g.met.D.Disk.only_now c.args.old.now c.args.new.now followed g.met.D.Disk.reads_one before now was is
