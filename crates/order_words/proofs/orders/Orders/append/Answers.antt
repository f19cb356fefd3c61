use Rattle.std.proofs.Common.{rules, ◌≡◌, ℕ, ◌+◌, ◌<◌, [], length, refl, sym, ap, ◌∙◌, subst, arith}
use mathlib.Core.Option.{some}
use Rattle.atomic_table.specs.Table.{Me, step, Allows}
use Rattle.order_words.specs.declared.view.View.{View}
use prog.Atomic.{either}
use Rattle.std.proofs.Common.{◌==◌, ◌∷◌, true, length-append}
use Rattle.order_words.specs.Lanes.{has_lane, last_touch, is_among}
use Rattle.order_words.specs.Plays.{order_state, Appends}
use Rattle.order_words.proofs.Forms.{is_order}
use Rattle.order_words.proofs.Keeps.{Rule, appends}
use Rattle.order_words.proofs.Touches.{last_touch_touched, last_touch_passed}
use Rattle.order_words.proofs.orders.Orders.append.Goals as goal

pub compare_exchange_with-requires : goal.compare_exchange_with-requires
compare_exchange_with-requires g c =
    let seat = c.seat.inside.seat in
    let places = c.seat.inside.places in
    let shared = c.self.inside.table.shared in
    let k = order_state seat.table_id seat.me.0 in
    let words : 0 < shared.table_id.words = omega (arith, c.self.invariant) in
    let covered : (lane : ℕ) → has_lane (g.E.Entry.lanes c.args.entry) lane ≡ true → is_among lane k.checked ≡ true = λ lane h. ap (λ z. is_among lane z.checked) c.seat.view_is ∙ c.requires.checked lane h in (
      search rules,
      words,
      subst (λ (m : Me g.row.E.Denot (View g.row.E.Denot)). Allows (Rule g.E.Entry.lanes shared.key) shared.table_id.slots seat.id m 0 (λ n. either (n == places) (places + 1) n) (Appends g.E.Entry.lanes (step shared.table_id.slots 0 places (places + 1) (some c.args.entry)) m))
          (sym c.seat.invariant.0) (appends g.E.Entry.lanes shared.key shared.table_id.slots seat.id [] k c.args.entry places (places + 1) c.seat.invariant.1 refl covered),
    )

pub invariant_of-seat : goal.invariant_of-seat
invariant_of-seat g c =
    let now = c.compare_exchange_with.ensures.2 c.args.entry refl in (
      is_order c.compare_exchange_with.new.seat.table_id _ _ _ _ _ now (ap (λ m. m.1) c.seat.invariant.0),
      ap (λ (n : ℕ). n + 1) c.seat.invariant.1 ∙ sym (ap (λ m. length m.0.list) now ∙ length-append c.seat.inside.seat.me.0.list (c.args.entry ∷ [])),
    )

pub returns-clause-touched : goal.returns-clause-touched
returns-clause-touched g c = λ lane touches.
    let lanes = g.E.Entry.lanes in
    let before = c.seat.inside.seat.me.0.list in
    let now = c.compare_exchange_with.ensures.2 c.args.entry refl in
    ap (λ m. last_touch lanes lane m.0.list) now ∙ (last_touch_touched lanes lane before c.args.entry touches ∙ ap (λ (n : ℕ). n + 1) (sym c.seat.invariant.1))

pub returns-clause-untouched : goal.returns-clause-untouched
returns-clause-untouched g c = λ lane passes.
    let lanes = g.E.Entry.lanes in
    let before = c.seat.inside.seat.me.0.list in
    let now = c.compare_exchange_with.ensures.2 c.args.entry refl in
    ap (λ m. last_touch lanes lane m.0.list) now ∙ (last_touch_passed lanes lane before c.args.entry passes ∙ ap (λ k. last_touch lanes lane k.list) c.seat.view_is)
