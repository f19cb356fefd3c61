use Rattle.std.proofs.Common.{◌∷◌, sym, ap, subst, ◌∙◌}
use Rattle.order_words.specs.Seats.{LaneState, OrderState}
use Rattle.locked_tables.specs.Held.{lanes_next}
use Rattle.locked_tables.specs.Known.{HasPlaceLeft, PartyKnown}
use Rattle.locked_tables.specs.Placing.{AddsLanes, IsPlaced}
use Rattle.locked_tables.specs.Taken.{party_lane}
use Rattle.locked_tables.specs.declared.taken.Taken.{Taken}
use Rattle.locked_tables.proofs.Announced.{is_placed, knows, lanes_with, last, placed_behind, rests_again}
use Rattle.locked_tables.proofs.Parties.{is_own}
use Rattle.locked_tables.proofs.Room.{left_after}
use Rattle.locked_tables.proofs.held_lanes.NoLaneJournalLane.place_from.Goals as goal

pub settle-requires-clause-placed : goal.settle-requires-clause-placed
settle-requires-clause-placed g c = is_placed c.pass.invariant.0 c.announce_lane-more.ensures.announced c.place_tables-all.ensures.lanes c.args.taken c.place_tables-all.ensures.order

pub returns-clause-lanes : goal.returns-clause-lanes
returns-clause-lanes g c =
    subst (λ (p : PartyKnown). AddsLanes c.args.lanes (party_lane p.party ∷ lanes_next c.args.held.now) c.place_tables-all.result) c.pass.view_is
    (lanes_with c.pass.invariant.0 c.announce_lane-more.ensures.announced c.place_tables-all.ensures.lanes)

pub returns-clause-placed : goal.returns-clause-placed
returns-clause-placed g c =
    let run = g.N.Naming.run in
    let seat = c.pass.inside.seat in
    let party = c.pass.inside.party in
    let announces = c.announce_lane-more.ensures.announced in
    let entry : Taken = record c.args.taken { lanes = c.place_tables-all.result } in
    let placed = c.settle.ensures.order ∙ placed_behind c.pass.invariant.0 announces c.place_tables-all.ensures.lanes c.args.taken c.place_tables-all.ensures.order in
    let list = ap (λ (s : LaneState Taken). s.list) c.settle.ensures.lane ∙ ap (λ (o : OrderState Taken). o.list) (sym c.settle.ensures.order) in
    let asks = c.requires.can.asks ∙ sym (ap (λ (p : PartyKnown). p.party) c.pass.view_is) in
    subst (λ (p : PartyKnown). IsPlaced run c.args.order.now c.settle.new.order p (record { party = party; list = c.settle.new.lane.list }) entry) c.pass.view_is (record {
      order = placed;
      pass = λ i. record { party = party; list = list i };
      own = is_own run party c.pass.invariant.1 seat.list c.args.order.now.list _ entry c.requires.ready.parties (knows c.pass.invariant.0 announces) (ap (λ (o : OrderState Taken). o.list) placed) asks;
      party = c.pass.invariant.1;
    })

pub invariant_of-pass : goal.invariant_of-pass
invariant_of-pass g c =
    let seat = c.pass.inside.seat in
    let announces = c.announce_lane-more.ensures.announced in
    let all = c.place_tables-all.ensures in
    let entry : Taken = record c.args.taken { lanes = c.place_tables-all.result } in
    let behind = last c.pass.invariant.0 announces all.lanes c.args.taken all.order in
    let asks = c.requires.can.asks ∙ sym (ap (λ (p : PartyKnown). p.party) c.pass.view_is) in
    let own = is_own g.N.Naming.run c.pass.inside.party c.pass.invariant.1 seat.list c.args.order.now.list c.place_tables-all.new.order.list entry c.requires.ready.parties (knows c.pass.invariant.0 announces) behind asks in (
      rests_again c.pass.invariant.0 announces all.lanes c.args.taken all.order c.settle.ensures.lane c.settle.ensures.last,
      c.pass.invariant.1,
      left_after g.N.Naming.places c.pass.inside.left own (ap (λ (s : LaneState Taken). s.list) c.settle.ensures.lane) c.pass.invariant.2 (subst (HasPlaceLeft g.N.Naming.places) (sym c.pass.view_is) c.requires.can.left),
    )
