use Rattle.std.proofs.Common.{◌≡◌}
use Rattle.order_words.specs.Seats.{fresh_order, fresh_lanes}
use Rattle.order_words.proofs.orders.Orders.make_all.Given as goal

abbrev pub invariant-loop-lane : goal.invariant-loop-lane
invariant-loop-lane g l = (l.seat ≡ fresh_order l.self l.lane) × (l.seats.items ≡ fresh_lanes l.self l.lane)
