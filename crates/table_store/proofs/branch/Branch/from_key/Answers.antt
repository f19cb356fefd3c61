use Rattle.std.proofs.Common.{◌≡◌, ◌+◌, ◌-◌, ◌++◌, length, take, drop, sym, ap, ◌∙◌, arith, refl}
use Rattle.std.proofs.lemmas.Grind.{common_steps}
use Rattle.table_store.specs.Places.{standing_from}
use Rattle.table_store.specs.Nodes.{rows_of}
use Rattle.table_store.specs.SearchKey.{sought_place}
use Rattle.table_store.proofs.Nodes.{standing_from-before, standing_from-page, AllFilled-take, AllFilled-drop}
use Rattle.table_store.proofs.branch.Branch.from_key.Goals as goal

pub returns-then-count-eq0-clause-rows : goal.returns-then-count-eq0-clause-rows
returns-then-count-eq0-clause-rows g c =
    let key = sought_place g.O.RowOrder.place c.args.sought in
    let count = rw c.deref.ensures.value at c.nodes_up_to-count.ensures in
    ap rows_of c.deref-then-count-eq0.ensures.value
    ∙ sym (standing_from-before g.O.RowOrder.place key _ _ count c.if-count-eq0.true)
    ∙ ap (standing_from g.O.RowOrder.place key) c.self.view_is

pub returns-clause-filled : goal.returns-clause-filled
returns-clause-filled g c =
    let n = c.nodes_up_to-count.result in
    let pages = c.deref-2.result.now in
    AllFilled-take (length pages - n) (drop n pages) (AllFilled-drop n pages (rw c.deref-2.ensures.value c.self.invariant.filled))

-- the rows of the page, and then those of the pages behind it
pub returns-clause-rows : goal.returns-clause-rows
returns-clause-rows g c =
    let key = sought_place g.O.RowOrder.place c.args.sought in
    let pages = c.self.inside.list.items in
    let n = c.nodes_up_to-count.result in
    let count = rw c.deref.ensures.value at c.nodes_up_to-count.ensures in
    let behind : rows_of (take (length c.deref-2.result.now - n) (drop n c.deref-2.result.now)) ≡ rows_of (drop (n - 1 + 1) pages) = grind (arith, common_steps) in
    ap (λ l. c.rows_from.result.now ++ l) behind
    ∙ ap (λ l. l ++ rows_of (drop (n - 1 + 1) pages)) (c.rows_from.ensures ∙ ap (standing_from g.O.RowOrder.place key) (c.node.ensures ∙ c.index.ensures))
    ∙ sym (standing_from-page g.O.RowOrder.place key pages n count (n - 1) refl (omega (arith, count.in_range)) c.index.result.now)
    ∙ ap (standing_from g.O.RowOrder.place key) c.self.view_is
