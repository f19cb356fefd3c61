use Rattle.std.proofs.Common.{List, subst}
use Rattle.locked_tables.specs.Known.{LearnsPlace}
use Rattle.locked_tables.specs.Taken.{journal_lane}
use Rattle.locked_tables.specs.declared.taken.Taken.{Taken}
use Rattle.locked_tables.proofs.Announced.{is_placed, lanes_with, learns, rests_again}
use Rattle.locked_tables.proofs.Placed.{placed_around}
use Rattle.locked_tables.proofs.held_lanes.LockedJournalJournalLane.place_from.Goals as goal

pub settle-requires-clause-placed : goal.settle-requires-clause-placed
settle-requires-clause-placed g c = is_placed c.self.invariant c.announce_lane-more.ensures.announced c.place_from-all.ensures.lanes c.args.taken c.place_from-all.ensures.placed.order

pub invariant_of-self : goal.invariant_of-self
invariant_of-self g c =
    rests_again c.self.invariant c.announce_lane-more.ensures.announced c.place_from-all.ensures.lanes c.args.taken c.place_from-all.ensures.placed.order c.settle.ensures.lane c.settle.ensures.last

pub returns : goal.returns
returns g c =
    let announces = c.announce_lane-more.ensures.announced in
    let all = c.place_from-all.ensures in
    record {
      placed = placed_around announces all.placed c.settle.ensures.order;
      lanes = lanes_with c.self.invariant announces all.lanes;
      journal = subst (λ (l : List Taken). LearnsPlace journal_lane c.args.order.now.list c.settle.new.order.list l c.settle.new.lane.list) c.self.view_is
          (learns c.self.invariant announces all.lanes c.args.taken all.placed.order c.settle.ensures.lane c.settle.ensures.order);
    }
