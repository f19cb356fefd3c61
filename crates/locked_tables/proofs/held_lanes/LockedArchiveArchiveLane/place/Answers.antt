use Rattle.std.proofs.Common.{◌∙◌, true, List, refl, sym, ap, subst}
use Rattle.order_words.specs.Seats.{LaneState, OrderState}
use Rattle.locked_tables.specs.Known.{LearnsPlace}
use Rattle.locked_tables.specs.Taken.{archive_lane, end_after}
use Rattle.locked_tables.specs.declared.taken.Taken.{Taken}
use Rattle.locked_tables.proofs.Archive.{end_placed}
use Rattle.locked_tables.proofs.Lanes.{has_this}
use Rattle.locked_tables.proofs.Announced.{is_placed, lanes_with, last, learns, rests_again}
use Rattle.locked_tables.proofs.Placed.{placed_around}
use Rattle.locked_tables.proofs.held_lanes.LockedArchiveArchiveLane.place.Goals as goal

pub settle-requires-clause-placed : goal.settle-requires-clause-placed
settle-requires-clause-placed g c = is_placed c.self.invariant.0 c.announce_lane-lanes.ensures.announced c.place_from-all.ensures.lanes c.args.taken c.place_from-all.ensures.placed.order

pub invariant_of-self : goal.invariant_of-self
invariant_of-self g c =
    let end = g.N.Naming.end in
    let announces = c.announce_lane-lanes.ensures.announced in
    let all = c.place_from-all.ensures in (
      rests_again c.self.invariant.0 announces all.lanes c.args.taken all.placed.order c.settle.ensures.lane c.settle.ensures.last,
      sym (end_placed end _ _ (record c.args.taken { lanes = c.place_from-all.result }) true (last c.self.invariant.0 announces all.lanes c.args.taken all.placed.order) (has_this (lanes_with c.self.invariant.0 announces all.lanes)))
          ∙ ap (λ (s : LaneState Taken). end_after end s.list) (sym c.settle.ensures.lane),
      c.requires.fits refl,
    )

pub returns : goal.returns
returns g c =
    let announces = c.announce_lane-lanes.ensures.announced in
    let all = c.place_from-all.ensures in
    record {
      placed = placed_around announces all.placed c.settle.ensures.order;
      lanes = lanes_with c.self.invariant.0 announces all.lanes;
      archive = subst (λ (l : List Taken). LearnsPlace archive_lane c.args.order.now.list c.settle.new.order.list l c.settle.new.lane.list) c.self.view_is
          (learns c.self.invariant.0 announces all.lanes c.args.taken all.placed.order c.settle.ensures.lane c.settle.ensures.order);
      journal = subst (λ (o : OrderState Taken). g.J.JournalLane.Learns c.args.order.now.list o.list c.args.journal.now c.place_from-all.new.self) (sym c.settle.ensures.order)
          (subst (λ (o : OrderState Taken). g.J.JournalLane.Learns o.list c.place_from-all.new.order.list c.args.journal.now c.place_from-all.new.self) announces.order all.journal);
    }
