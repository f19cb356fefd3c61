use Rattle.std.proofs.Common.{arith}
use Rattle.replica_chain.specs.Chronicle.{texts_of}
use Rattle.replica_chain.proofs.Copies.{earlier_alike, fresh_behind}
use Rattle.replica_chain.proofs.Growing.{texts_long}
use Rattle.replica_chain.proofs.laws.nodes_opened_are_behind.Goals as goal

pub returns : goal.returns
returns g c = λ chronicle texts bytes n fresh alike within same.
    fresh_behind g.D.Disk.says c.args.node.now chronicle n fresh texts bytes (earlier_alike (texts_of chronicle) texts (omega (arith, texts_long chronicle)) alike) within same
