use Rattle.std.proofs.Common.{rules, sym, ap, subst, arith, ◌<◌}
use Rattle.atomic_table.specs.Table.{Splits}
use Rattle.order_words.specs.declared.view.View.{View}
use Rattle.order_words.specs.Plays.{order_state, written_note}
use Rattle.order_words.proofs.Keeps.{Rule, tells_order}
use Rattle.order_words.proofs.orders.Orders.note.Goals as goal

pub split_seat-requires : goal.split_seat-requires
split_seat-requires g c =
    let seat = c.seat.inside.seat in
    let count = c.self.inside.table.shared.key in
    let words : 0 < c.self.inside.table.shared.table_id.words = omega (arith, c.self.invariant) in (
      search rules,
      words,
      subst (λ (v : View g.row.E.Denot). Splits (Rule g.E.Entry.lanes count) seat.id v v (written_note v)) (sym (ap (λ m. m.0) c.seat.invariant.0)) (tells_order g.E.Entry.lanes count seat.id (order_state seat.table_id seat.me.0)),
    )
