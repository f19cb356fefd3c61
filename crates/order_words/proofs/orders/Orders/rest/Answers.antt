use Rattle.std.proofs.Common.{rules, ◌≡◌, ℕ, ◌+◌, ◌<◌, ◌≤◌, [], sym, ap, subst}
use mathlib.Core.Option.{none}
use Rattle.atomic_table.specs.Table.{Me, step, Allows}
use Rattle.order_words.specs.declared.view.View.{View}
use Rattle.order_words.specs.Seats.{LaneState}
use Rattle.order_words.specs.Lanes.{last_touch}
use Rattle.order_words.specs.Plays.{lane_state, Rests}
use Rattle.order_words.proofs.Keeps.{Rule, rests}
use Rattle.order_words.proofs.orders.Orders.rest.Goals as goal

pub load-requires : goal.load-requires
load-requires g c =
    let seat = c.seat.inside.seat in
    let shared = c.self.inside.table.shared in
    let k = lane_state seat.table_id seat.me.0 in
    let inv = c.seat.invariant in
    let run : seat.table_id ≡ shared.table_id = search rules in
    let inside : c.seat.inside.lane + 1 < shared.table_id.words = subst (λ (n : ℕ). c.seat.inside.lane + 1 < n) (ap (λ z. z.words) run) inv.2 in
    let placed : k.word ≤ last_touch g.E.Entry.lanes k.lane k.list = subst (λ (z : LaneState g.row.E.Denot). z.word ≤ last_touch g.E.Entry.lanes z.lane z.list) (sym c.seat.view_is) c.requires.placed in (
      run,
      inside,
      subst (λ (z : ℕ × Me g.row.E.Denot (View g.row.E.Denot)). Allows (Rule g.E.Entry.lanes shared.key) shared.table_id.slots seat.id z.1 (z.0 + 1) (λ n. n) (Rests g.E.Entry.lanes (step shared.table_id.slots (z.0 + 1) 0 0 none) z.1))
          (λ i. (sym inv.1 i, sym inv.0 i)) (rests g.E.Entry.lanes shared.key shared.table_id.slots seat.id [] k placed),
    )
