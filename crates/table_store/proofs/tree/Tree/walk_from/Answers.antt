use Rattle.std.proofs.Common.{◌≡◌, ◌+◌, ◌-◌, ◌++◌, length, take, drop, sym, ap, ◌∙◌, arith, refl}
use Rattle.std.proofs.lemmas.Grind.{common_steps}
use Rattle.std.proofs.lemmas.List.{append_assoc}
use Rattle.table_store.specs.Places.{standing_from}
use Rattle.table_store.specs.Nodes.{rows_of}
use Rattle.table_store.specs.SearchKey.{sought_place}
use Rattle.table_store.proofs.Nodes.{standing_from-before, standing_from-page, AllFilled-take, AllFilled-drop}
use Rattle.table_store.proofs.tree.Tree.walk_from.Goals as goal

pub returns-then-count-eq0 : goal.returns-then-count-eq0
returns-then-count-eq0 g c =
    let key = sought_place g.O.RowOrder.place c.args.sought in
    let count = rw c.deref.ensures.value at c.nodes_up_to-count.ensures in
    c.walk.ensures
    ∙ sym c.self.view_is
    ∙ sym (standing_from-before g.O.RowOrder.place key _ _ count c.if-count-eq0.true)
    ∙ ap (standing_from g.O.RowOrder.place key) c.self.view_is

pub new-requires-clause-branches : goal.new-requires-clause-branches
new-requires-clause-branches g c =
    let n = c.nodes_up_to-count.result in
    let shelves = c.deref-2.result.now in
    AllFilled-take (length shelves - n) (drop n shelves) (AllFilled-drop n shelves (rw c.deref-2.ensures.value c.self.invariant.filled))

pub returns : goal.returns
returns g c =
    let key = sought_place g.O.RowOrder.place c.args.sought in
    let shelves = c.self.inside.list.items in
    let n = c.nodes_up_to-count.result in
    let count = rw c.deref.ensures.value at c.nodes_up_to-count.ensures in
    let rest = rows_of (take (length c.deref-2.result.now - n) (drop n c.deref-2.result.now)) in
    let behind : rest ≡ rows_of (drop (n - 1 + 1) shelves) = grind (arith, common_steps) in
    c.new.ensures
    ∙ sym (append_assoc c.from_key.result.0.now (rows_of c.from_key.result.1.now) rest)
    ∙ ap (λ l. c.from_key.result.0.now ++ rows_of c.from_key.result.1.now ++ l) behind
    ∙ ap (λ l. l ++ rows_of (drop (n - 1 + 1) shelves)) (c.from_key.ensures.rows ∙ ap (standing_from g.O.RowOrder.place key) (c.node.ensures ∙ c.index.ensures))
    ∙ sym (standing_from-page g.O.RowOrder.place key shelves n count (n - 1) refl (omega (arith, count.in_range)) c.index.result.now)
    ∙ ap (standing_from g.O.RowOrder.place key) c.self.view_is
