use Rattle.std.proofs.Common.{◌≡◌, ◌+◌, [], ◌∷◌, ◌++◌, length, get_or, ap, ◌∙◌, subst, arith}
use Rattle.table_store.specs.Places.{placed_once}
use Rattle.table_store.proofs.Place.{row_behind}
use Rattle.table_store.proofs.Nodes.{behind_ok, parts_ok, same_item}
use Rattle.table_store.proofs.node.change_node.Goals as goal

-- the row stands behind those of the last node
pub returns-then-ends_before-clause-ok : goal.returns-then-ends_before-clause-ok
returns-then-ends_before-clause-ok g c =
    let place = g.N.Order.RowOrder.place in
    let nodes = c.args.list.now.items in
    let row = c.args.row.now in
    let last : c.args.at + 1 ≡ length nodes = omega arith in
    let here = c.node.ensures ∙ c.index.ensures in
    let ends = c.ends_before.ensures c.if-ends_before.true in
    let behind = row_behind place (g.N.Node.rows c.node.result.now) c.args.op row ends.1 ends.0 in
    behind_ok place nodes c.push_row.new.list.items c.args.at c.args.op row c.push_row.result last
    (λ d. subst (λ rows. placed_once place rows c.args.op row ≡ rows ++ row ∷ []) (here ∙ same_item nodes c.args.at c.index.result.now d (omega arith)) behind)
    c.push_row.ensures.ok c.push_row.ensures.filled

pub returns-clause-ok : goal.returns-clause-ok
returns-clause-ok g c =
    let node = c.index-2.result.now in
    let same = c.in_ok-change_at.ensures.left c.if-branch.false in
    let parts = rw c.node-2.ensures at c.in_ok-parts.ensures in
    parts_ok g.N.Order.RowOrder.place g.N.Node.rows c.in_ok-parts.parts c.args.list.now.items c.change_at.new.list.items c.replace_node.new.list.items c.args.at node c.args.op c.args.row.now c.replace_node.result same
    (omega (arith, c.requires)) (c.index-2.ensures ∙ ap (λ l. get_or l c.args.at node) same) parts c.replace_node.ensures.ok
