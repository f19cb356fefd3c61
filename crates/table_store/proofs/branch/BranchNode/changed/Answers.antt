use Rattle.std.proofs.Common.{◌<◌, length, subst, arith}
use Rattle.std.proofs.lemmas.Grind.{common_steps}
use Rattle.table_store.proofs.Nodes.{nodes_lower, nodes_upper, rows_of-some, two_parts}
use Rattle.table_store.proofs.branch.BranchNode.changed.Goals as goal

pub returns-then-len-lt-BRANCH_PAGES : goal.returns-then-len-lt-BRANCH_PAGES
returns-then-len-lt-BRANCH_PAGES g c =
    let made = rw (c.in_ok-list.ensures, c.deref.ensures.value, c.self.view_is) at c.in_ok-change_nodes.ensures.ok in
    let some : 0 < length c.change_nodes.new.list.items = grind (arith, common_steps) in
    (made, subst (λ rows. 0 < length rows) made (rows_of-some _ c.in_ok-change_nodes.ensures.nodes.filled some))

pub invariant_of-result-2 : goal.invariant_of-result-2
invariant_of-result-2 g c = rw c.in_ok-upper.ensures.items (nodes_lower g.O.RowOrder.place 128 _ c.in_ok-change_nodes.ensures.nodes)

pub invariant_of-result-3 : goal.invariant_of-result-3
invariant_of-result-3 g c = rw c.in_ok-upper.ensures.tail (nodes_upper g.O.RowOrder.place 128 _ c.in_ok-change_nodes.ensures.nodes)

pub returns : goal.returns
returns g c =
    let made = rw (c.in_ok-list.ensures, c.deref.ensures.value, c.self.view_is) at c.in_ok-change_nodes.ensures.ok in
    rw (c.in_ok-upper.ensures.items, c.in_ok-upper.ensures.tail, ← made) (two_parts 128 _ c.in_ok-change_nodes.ensures.nodes.filled (omega arith) (omega arith))
