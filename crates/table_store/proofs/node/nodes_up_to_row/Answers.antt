use Rattle.table_store.proofs.Nodes.{count_all}
use Rattle.table_store.proofs.node.nodes_up_to_row.Goals as goal

pub returns-then-end_below : goal.returns-then-end_below
returns-then-end_below g c = count_all g.N.Order.RowOrder.place (g.N.Order.RowOrder.place c.args.row.now) c.args.nodes.now (c.end_below.ensures.0 c.if-end_below.true)
