use Rattle.replica_chain.proofs.Prefixes.{opened_since}
use Rattle.replica_chain.proofs.laws.nodes_open_at_every_moment.Goals as goal

pub returns : goal.returns
returns g c = λ mine theirs bytes after master n stays. opened_since theirs bytes after master g.D.Disk.says c.args.new.now mine c.args.old.now n.are_groups stays
