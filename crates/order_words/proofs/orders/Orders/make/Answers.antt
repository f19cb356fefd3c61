use Rattle.std.proofs.Common.{rules, sym, ap, subst, arith, ◌<◌}
use Rattle.atomic_table.specs.Table.{Splits}
use Rattle.order_words.specs.declared.view.View.{View}
use Rattle.order_words.specs.Plays.{order_state, with_lane, new_lane, made_of}
use Rattle.order_words.proofs.Keeps.{Rule, makes}
use Rattle.order_words.proofs.orders.Orders.make.Goals as goal

pub split_seat-requires : goal.split_seat-requires
split_seat-requires g c =
    let seat = c.seat.inside.seat in
    let count = c.self.inside.table.shared.key in
    let words : 0 < c.self.inside.table.shared.table_id.words = omega (arith, c.self.invariant) in
    let made = ap (λ k. k.made) c.seat.view_is in
    let words_is = ap (λ z. z.words) c.self.view_is in
    let room : made_of seat.me.0.role < count = omega arith in (
      search rules,
      words,
      subst (λ (v : View g.row.E.Denot). Splits (Rule g.E.Entry.lanes count) seat.id v (with_lane v) (new_lane v)) (sym (ap (λ m. m.0) c.seat.invariant.0)) (makes g.E.Entry.lanes count seat.id (order_state seat.table_id seat.me.0) room),
    )
