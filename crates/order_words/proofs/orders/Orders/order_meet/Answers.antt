use Rattle.std.proofs.Common.{rules, ◌≡◌, ◌<◌, [], length, sym, ap, ◌∙◌, subst, arith}
use mathlib.Core.Option.{none}
use Rattle.atomic_table.specs.Table.{Me, step, Allows, Joins}
use Rattle.order_words.specs.declared.view.View.{View}
use Rattle.order_words.specs.declared.view.Role.TheVariants.{Order}
use Rattle.order_words.specs.Plays.{order_state, note_state, told_by, spent_note, LearnsOfOrder}
use Rattle.order_words.specs.Seats.{checked_with}
use Rattle.order_words.proofs.Keeps.{Rule, told_as, order_meets, minds}
use Rattle.order_words.proofs.orders.Orders.order_meet.Goals as goal

pub join_seat-requires : goal.join_seat-requires
join_seat-requires g c =
    let seat = c.seat.inside.seat in
    let note = c.note.inside.seat in
    let shared = c.self.inside.table.shared in
    let words : 0 < shared.table_id.words = omega (arith, c.self.invariant) in (
      search rules,
      search rules,
      search rules,
      words,
      subst (λ (z : View g.row.E.Denot × View g.row.E.Denot). Joins (Rule g.E.Entry.lanes shared.key) seat.id z.0 note.id z.1 (told_by z.0 z.1) spent_note)
          (λ i. (sym (ap (λ m. m.0) c.seat.invariant.0) i, sym (ap (λ m. m.0) c.note.invariant) i))
          (order_meets g.E.Entry.lanes shared.key seat.id note.id (order_state seat.table_id seat.me.0) (note_state note.table_id note.me.0)),
    )

pub load-requires : goal.load-requires
load-requires g c =
    let seat = c.seat.inside.seat in
    let note = c.note.inside.seat in
    let shared = c.self.inside.table.shared in
    let k = order_state seat.table_id seat.me.0 in
    let words : 0 < shared.table_id.words = omega (arith, c.self.invariant) in
    let now = c.join_seat.ensures in
    let told = note_state note.table_id note.me.0 in
    let m = c.join_seat.new.seat.me in
    let check = checked_with (length k.list) told.lane told.word k.checked in
    let is : m ≡ (told_as k.list told.list (Order k.made check), []) = now.2 ∙ (λ i. (told_by (c.seat.invariant.0 i).0 (c.note.invariant i).0, (c.seat.invariant.0 i).1)) in (
      search rules,
      words,
      subst (λ (z : Me g.row.E.Denot (View g.row.E.Denot)). Allows (Rule g.E.Entry.lanes shared.key) shared.table_id.slots c.join_seat.new.seat.id z 0 (λ n. n) (LearnsOfOrder g.E.Entry.lanes (step shared.table_id.slots 0 0 0 none) z))
          (sym is) (minds g.E.Entry.lanes shared.key shared.table_id.slots c.join_seat.new.seat.id [] k.list told.list k.made check),
    )
