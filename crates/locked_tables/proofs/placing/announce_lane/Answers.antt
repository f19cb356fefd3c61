use Rattle.std.proofs.Common.{◌≡◌, ℕ, [], ◌∷◌, ap, subst, sym, ◌∙◌}
use Rattle.order_words.specs.Seats.{LaneState}
use Rattle.locked_tables.specs.Placing.{AddsLanes, IsReadyFor}
use Rattle.locked_tables.specs.declared.taken.Taken.{Taken}
use Rattle.locked_tables.proofs.Lanes.{among_more, lane_added}
use Rattle.locked_tables.proofs.placing.announce_lane.Goals as goal

pub returns : goal.returns
returns g c =
    let is : c.lane.result ≡ c.args.seat.now.lane = c.lane.ensures.lane ∙ ap (λ (s : LaneState Taken). s.lane) c.announce_next.ensures.lane in
    let adds = subst (λ (n : ℕ). AddsLanes c.args.lanes (n ∷ []) c.with_lane.result) is (lane_added c.args.lanes c.with_lane.result c.lane.result c.with_lane.ensures.one c.with_lane.ensures.others) in
    let ready = c.requires.ready in
    record {
      ready = subst (IsReadyFor g.N.Naming.run c.with_lane.result) (sym c.announce_next.ensures.order)
          (record { of_run = ready.of_run; room = ready.room; parties = ready.parties; checked = among_more adds c.args.order.now.checked ready.checked });
      announced = record { order = c.announce_next.ensures.order; seat = c.announce_next.ensures.lane; begins = c.announce_next.ensures.begins; last = c.announce_next.ensures.last; adds = adds };
    }
