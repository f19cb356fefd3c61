use Rattle.std.proofs.Common.{◌≡◌, List, sym, ap, subst, ◌∙◌}
use Rattle.order_words.specs.Seats.{LaneState}
use Rattle.locked_tables.specs.Known.{GoesOnWithout, KnowsLane}
use Rattle.locked_tables.specs.Taken.{archive_lane, end_after}
use Rattle.locked_tables.specs.declared.taken.Taken.{Taken}
use Rattle.locked_tables.proofs.Archive.{end_kept, goes_on}
use Rattle.locked_tables.proofs.Seats.{learnt_at_rest, listed, same_touch}
use Rattle.locked_tables.proofs.placed_order.PlacedOrder.learn_archive.Goals as goal

pub invariant_of-archive : goal.invariant_of-archive
invariant_of-archive g c =
    let run = g.N.Naming.run in
    let end = g.N.Naming.end in
    let seat = c.archive.inside.seat in
    let order = c.self.inside.seat.list in
    let learnt = c.learn.ensures.lane in
    let last = c.learn.ensures.last in
    let now = learnt_at_rest run archive_lane order seat.list seat c.learn.new.lane c.archive.invariant.0 learnt last in
    let knows : KnowsLane archive_lane seat.list order = record { begins = c.learn.ensures.begins; last = same_touch run archive_lane order seat.list seat c.archive.invariant.0 last } in (
      listed run archive_lane order c.learn.new.lane now,
      c.archive.invariant.1 ∙ (sym (end_kept end seat.list order knows) ∙ ap (λ (s : LaneState Taken). end_after end s.list) (sym learnt)),
      c.archive.invariant.2,
    )

pub returns-clause-still : goal.returns-clause-still
returns-clause-still g c =
    let run = g.N.Naming.run in
    let end = g.N.Naming.end in
    let seat = c.archive.inside.seat in
    let order = c.self.inside.seat.list in
    let knows : KnowsLane archive_lane seat.list order = record { begins = c.learn.ensures.begins; last = same_touch run archive_lane order seat.list seat c.archive.invariant.0 c.learn.ensures.last } in
    let inner : end_after end order ≡ end_after end seat.list = end_kept end seat.list order knows in
    subst (λ (l : List Taken). end_after end c.args.self.now ≡ end_after end l) c.archive.view_is (subst (λ (l : List Taken). end_after end l ≡ end_after end seat.list) c.self.view_is inner)

pub returns-clause-behind : goal.returns-clause-behind
returns-clause-behind g c =
    let run = g.N.Naming.run in
    let seat = c.archive.inside.seat in
    let order = c.self.inside.seat.list in
    let knows : KnowsLane archive_lane seat.list order = record { begins = c.learn.ensures.begins; last = same_touch run archive_lane order seat.list seat c.archive.invariant.0 c.learn.ensures.last } in
    subst (λ (l : List Taken). GoesOnWithout archive_lane l c.args.self.now) c.archive.view_is
    (subst (λ (l : List Taken). GoesOnWithout archive_lane seat.list l) c.self.view_is (goes_on archive_lane seat.list order knows))
