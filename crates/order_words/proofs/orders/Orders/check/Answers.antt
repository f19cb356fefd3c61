use Rattle.std.proofs.Common.{rules, ℕ, ◌+◌, ◌<◌, ◌≤◌, [], length, refl, sym, ap, ◌∙◌, subst, arith}
use mathlib.Core.Option.{none}
use Rattle.atomic_table.specs.Table.{Me, step, Allows}
use Rattle.order_words.specs.declared.view.View.{View}
use Rattle.order_words.specs.Plays.{order_state, Checks}
use Rattle.order_words.proofs.Forms.{is_order}
use Rattle.order_words.proofs.Keeps.{Rule, checks}
use Rattle.order_words.proofs.orders.Orders.check.Goals as goal

pub load-requires : goal.load-requires
load-requires g c =
    let seat = c.seat.inside.seat in
    let shared = c.self.inside.table.shared in
    let k = order_state seat.table_id seat.me.0 in
    let inside : c.args.lane + 1 < shared.table_id.words = omega (arith, ap (λ z. z.words) c.self.view_is, c.requires.lane) in (
      search rules,
      inside,
      subst (λ (m : Me g.row.E.Denot (View g.row.E.Denot)). Allows (Rule g.E.Entry.lanes shared.key) shared.table_id.slots seat.id m (c.args.lane + 1) (λ n. n) (Checks g.E.Entry.lanes (step shared.table_id.slots (c.args.lane + 1) 0 0 none) m))
          (sym c.seat.invariant.0) (checks g.E.Entry.lanes shared.key shared.table_id.slots seat.id [] k c.args.lane),
    )

pub invariant_of-seat : goal.invariant_of-seat
invariant_of-seat g c = let told = (c.load.ensures.2 c.args.lane refl).0 in
    (is_order c.load.new.seat.table_id _ _ _ _ _ told (ap (λ m. m.1) c.seat.invariant.0), c.seat.invariant.1 ∙ sym (ap (λ m. length m.0.list) told))

pub returns-clause-high : goal.returns-clause-high
returns-clause-high g c = let told = c.load.ensures.2 c.args.lane refl in subst (λ (n : ℕ). c.load.result ≤ n + 1) (ap (λ k. length k.list) c.seat.view_is) told.2
