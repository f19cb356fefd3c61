use Rattle.std.proofs.Common.{◌≤◌, length, ap, ◌∙◌, arith}
use Rattle.order_words.proofs.Learning.{checked_with_passed}
use Rattle.order_words.proofs.Touches.{last_touch_within}
use Rattle.order_words.proofs.orders.Orders.settle.Goals as goal

pub returns-clause-order : goal.returns-clause-order
returns-clause-order g c =
    let order = c.args.order.now in
    let lane = c.args.lane.now in
    let passed : lane.word ≤ length order.list = omega (arith, c.requires.placed, last_touch_within g.E.Entry.lanes lane.lane order.list) in
    c.tell_all.ensures.order ∙ ap (λ lanes. record order { checked = lanes }) (checked_with_passed (length order.list) lane.lane lane.word order.checked passed)
