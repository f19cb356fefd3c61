use Rattle.std.proofs.Common.{◌≡◌, ◌+◌, List, length, ap, subst, ◌∙◌}
use Rattle.order_words.specs.Seats.{LaneState}
use Rattle.locked_tables.specs.Known.{KnowsLane, PartyKnown}
use Rattle.locked_tables.specs.Taken.{of_party, party_lane}
use Rattle.locked_tables.specs.declared.taken.Taken.{Taken}
use Rattle.locked_tables.proofs.Parties.{party_kept}
use Rattle.locked_tables.proofs.Seats.{learnt_at_rest, listed, same_touch}
use Rattle.locked_tables.proofs.placed_order.PlacedOrder.tell.Goals as goal

pub returns-clause-own : goal.returns-clause-own
returns-clause-own g c =
    let run = g.N.Naming.run in
    let party = c.pass.inside.party in
    let seat = c.pass.inside.seat in
    let order = c.self.inside.seat.list in
    let knows : KnowsLane (party_lane party) seat.list order = record {
      begins = c.learn.ensures.begins;
      last = same_touch run (party_lane party) order seat.list seat c.pass.invariant.0 c.learn.ensures.last;
    } in
    let inner : of_party party order ≡ of_party party seat.list = party_kept run party c.pass.invariant.1 seat.list order c.self.invariant.3 knows in
    subst (λ (p : PartyKnown). of_party p.party c.args.self.now ≡ of_party p.party p.list) c.pass.view_is (subst (λ (l : List Taken). of_party party l ≡ of_party party seat.list) c.self.view_is inner)

pub invariant_of-pass : goal.invariant_of-pass
invariant_of-pass g c =
    let run = g.N.Naming.run in
    let party = c.pass.inside.party in
    let lane = party_lane party in
    let left = c.pass.inside.left in
    let seat = c.pass.inside.seat in
    let order = c.self.inside.seat.list in
    let knows : KnowsLane lane seat.list order = record {
      begins = c.learn.ensures.begins;
      last = same_touch run lane order seat.list seat c.pass.invariant.0 c.learn.ensures.last;
    } in
    let kept : of_party party order ≡ of_party party seat.list = party_kept run party c.pass.invariant.1 seat.list order c.self.invariant.3 knows in (
      listed run lane order c.learn.new.lane (learnt_at_rest run lane order seat.list seat c.learn.new.lane c.pass.invariant.0 c.learn.ensures.lane c.learn.ensures.last),
      c.pass.invariant.1,
      ap (λ (s : LaneState Taken). length (of_party party s.list) + left) c.learn.ensures.lane ∙ (ap (λ (l : List Taken). length l + left) kept ∙ c.pass.invariant.2),
    )
