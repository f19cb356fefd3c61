use Rattle.std.proofs.Common.{rules}
use Rattle.std.proofs.lemmas.Fn.{always_returns_same}
use Rattle.table_store.specs.SearchKey.{sought_place}
use Rattle.table_store.proofs.Nodes.{begins, nodes_parted, node_count}
use Rattle.table_store.proofs.node.nodes_up_to.Goals as goal

-- the closure tells whether a node begins at or below the key
pub returns : goal.returns
returns g c =
    let facts = c.partition_point.ensures in
    let place = g.N.Order.RowOrder.place in
    let key = sought_place place c.args.sought in
    node_count place key _ _ c.requires facts.bound (facts.partitioned (begins place key) (always_returns_same _ _ _ (λ a r g called. search rules)) (nodes_parted place key _ c.requires))
