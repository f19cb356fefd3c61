use Rattle.std.proofs.Common.{◌-◌, sym, ap, ◌∙◌, arith, refl}
use Rattle.table_store.specs.Places.{standing_at}
use Rattle.table_store.specs.SearchKey.{sought_place}
use Rattle.table_store.proofs.Nodes.{standing_at-before, standing_at-page}
use Rattle.table_store.proofs.branch.Branch.get.Goals as goal

pub returns-then-count-eq0 : goal.returns-then-count-eq0
returns-then-count-eq0 g c = rw (← c.self.view_is) (sym (standing_at-before g.O.RowOrder.place _ _ _ (rw c.deref.ensures.value at c.nodes_up_to-count.ensures) c.if-count-eq0.true))

pub returns : goal.returns
returns g c =
    let key = sought_place g.O.RowOrder.place c.args.sought in
    let count = rw c.deref.ensures.value at c.nodes_up_to-count.ensures in
    c.get.ensures
    ∙ ap (standing_at g.O.RowOrder.place key) (c.node.ensures ∙ c.index.ensures)
    ∙ sym (standing_at-page g.O.RowOrder.place key _ _ count (c.nodes_up_to-count.result - 1) refl (omega (arith, count.in_range)) c.index.result.now)
    ∙ ap (standing_at g.O.RowOrder.place key) c.self.view_is
