use Rattle.std.proofs.Common.{rules, ◌≡◌, ℕ, ◌+◌, ◌<◌, [], length, sym, ap, ◌∙◌, subst}
use mathlib.Core.Option.{none}
use Rattle.atomic_table.specs.Table.{Me, step, Allows}
use Rattle.order_words.specs.declared.view.View.{View}
use Rattle.order_words.specs.Plays.{lane_state, Announces}
use Rattle.order_words.proofs.Keeps.{Rule, announces}
use Rattle.order_words.proofs.orders.Orders.announce.Goals as goal

pub store-requires : goal.store-requires
store-requires g c =
    let seat = c.seat.inside.seat in
    let shared = c.self.inside.table.shared in
    let k = lane_state seat.table_id seat.me.0 in
    let inv = c.seat.invariant in
    let run : seat.table_id ≡ shared.table_id = search rules in
    let inside : c.seat.inside.lane + 1 < shared.table_id.words = subst (λ (n : ℕ). c.seat.inside.lane + 1 < n) (ap (λ z. z.words) run) inv.2 in
    let rest = ap (λ z. z.resting) c.seat.view_is ∙ c.requires.rest in
    let next : c.args.place ≡ length k.list + 1 = c.requires.next ∙ sym (ap (λ z. length z.list + 1) c.seat.view_is) in (
      run,
      inside,
      subst (λ (z : ℕ × Me g.row.E.Denot (View g.row.E.Denot)). Allows (Rule g.E.Entry.lanes shared.key) shared.table_id.slots seat.id z.1 (z.0 + 1) (λ _. c.args.place) (λ _. Announces g.E.Entry.lanes (step shared.table_id.slots (z.0 + 1) c.args.place 0 none) z.1 c.args.place))
          (λ i. (sym inv.1 i, sym inv.0 i)) (announces g.E.Entry.lanes shared.key shared.table_id.slots seat.id [] k c.args.place rest next),
    )
