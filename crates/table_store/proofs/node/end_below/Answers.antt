use Rattle.std.proofs.Common.{sym, ◌∙◌, subst}
use Rattle.table_store.specs.Places.{AllStandBelow}
use Rattle.table_store.proofs.Nodes.{below_to_last, below_from_last}
use Rattle.table_store.proofs.node.end_below.Goals as goal

-- all rows are below the key exactly where those of the last node are
pub returns-in-Some : goal.returns-in-Some
returns-in-Some g c =
    let place = g.N.Order.RowOrder.place in
    let key = place c.args.row.now in
    let nodes = c.args.nodes.now in
    let last = c.in-Some.shared.now in
    let item = c.in-Some.ensures.item in
    let is = c.node.ensures ∙ item.1 in
    let some = item.3.0 in
    ((λ t. below_from_last place key nodes last some c.requires (subst (AllStandBelow place key) is (c.ends_below.ensures.0 t))), (λ low. c.ends_below.ensures.1 (subst (AllStandBelow place key) (sym is) (below_to_last place key nodes last some low))))
