use Rattle.std.proofs.Common.{◌≡◌, ◌<◌, length, ◌∙◌, arith}
use Rattle.std.proofs.lemmas.Grind.{common_steps}
use Rattle.std.proofs.lemmas.List.{get_or-set_same}
use Rattle.table_store.proofs.Nodes.{made_alone, changed_in_place, changed_to_none}
use Rattle.table_store.proofs.node.change_at.Goals as goal

pub returns-then-is_empty-clause-done : goal.returns-then-is_empty-clause-done
returns-then-is_empty-clause-done g c = λ _.
    let nodes = c.args.list.now.items in
    let node = c.change_alone.new.self in
    let h : c.args.at < length nodes = omega (arith, c.requires) in
    let here = c.node.ensures ∙ c.index.ensures ∙ get_or-set_same nodes c.args.at node c.index.result.now h in
    let none : length node ≡ 0 = grind (arith, common_steps) in
    let made = made_alone g.N.Order.RowOrder.place nodes c.args.at c.index_mut.result.now node c.args.op c.args.row.now h c.index_mut.ensures.value (c.in_ok-change_alone.ensures.done c.if-not-branch.false) in
    rw c.remove.ensures.items (changed_to_none g.N.Order.RowOrder.place nodes c.args.at node c.args.op c.args.row.now h made none)

pub returns-else-is_empty-clause-done : goal.returns-else-is_empty-clause-done
returns-else-is_empty-clause-done g c = λ _.
    let nodes = c.args.list.now.items in
    let node = c.change_alone.new.self in
    let h : c.args.at < length nodes = omega (arith, c.requires) in
    let here = c.node.ensures ∙ c.index.ensures ∙ get_or-set_same nodes c.args.at node c.index.result.now h in
    let some : 0 < length node = grind (arith, common_steps) in
    let made = made_alone g.N.Order.RowOrder.place nodes c.args.at c.index_mut.result.now node c.args.op c.args.row.now h c.index_mut.ensures.value (c.in_ok-change_alone.ensures.done c.if-not-branch.false) in
    changed_in_place g.N.Order.RowOrder.place nodes c.args.at node c.args.op c.args.row.now h made some
