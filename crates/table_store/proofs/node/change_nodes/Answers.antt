use Rattle.std.proofs.Common.{arith}
use Rattle.std.proofs.lemmas.Grind.{common_steps}
use Rattle.table_store.proofs.Nodes.{changed_nodes, changed_ok}
use Rattle.table_store.proofs.node.change_nodes.Goals as goal

pub returns-clause-ok : goal.returns-clause-ok
returns-clause-ok g c =
    let count = rw (c.deref.ensures.value, c.row.ensures) at c.nodes_up_to_row-count.ensures in
    changed_ok g.N.Order.RowOrder.place c.args.op c.args.row.now _ _ c.nodes_up_to_row-count.result _ count c.saturating_sub.ensures (grind (arith, common_steps)) c.requires _ c.change_node.ensures.ok

pub returns-clause-nodes : goal.returns-clause-nodes
returns-clause-nodes g c =
    let count = rw (c.deref.ensures.value, c.row.ensures) at c.nodes_up_to_row-count.ensures in
    changed_nodes g.N.Order.RowOrder.place c.args.op c.args.row.now _ _ c.nodes_up_to_row-count.result _ count c.saturating_sub.ensures (grind (arith, common_steps)) c.requires _ c.change_node.ensures.ok c.change_node.ensures.err
