use Rattle.std.proofs.Common.{rules, ◌+◌, ◌<◌, [], refl, sym, ap, ◌∙◌, subst, arith}
use mathlib.Core.Option.{none}
use Rattle.atomic_table.specs.Table.{Me, step, Allows}
use Rattle.order_words.specs.declared.view.View.{View}
use Rattle.order_words.specs.Plays.{lane_state, Looks}
use Rattle.order_words.proofs.Keeps.{Rule, looks}
use Rattle.order_words.proofs.orders.Orders.look.Goals as goal

pub load-requires : goal.load-requires
load-requires g c =
    let seat = c.seat.inside.seat in
    let shared = c.self.inside.table.shared in
    let k = lane_state seat.table_id seat.me.0 in
    let inside : c.args.lane + 1 < shared.table_id.words = omega (arith, ap (λ z. z.words) c.self.view_is, c.requires.lane) in (
      search rules,
      inside,
      subst (λ (m : Me g.row.E.Denot (View g.row.E.Denot)). Allows (Rule g.E.Entry.lanes shared.key) shared.table_id.slots seat.id m (c.args.lane + 1) (λ n. n) (Looks g.E.Entry.lanes (step shared.table_id.slots (c.args.lane + 1) 0 0 none) m))
          (sym c.seat.invariant.0) (looks g.E.Entry.lanes shared.key shared.table_id.slots seat.id [] k c.args.lane),
    )

pub returns-clause-own : goal.returns-clause-own
returns-clause-own g c = λ own. (c.load.ensures.2.1 c.args.lane refl).1 (own ∙ sym (ap (λ k. k.lane) c.seat.view_is)) ∙ ap (λ k. k.word) c.seat.view_is
