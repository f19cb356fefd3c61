use Rattle.std.proofs.Common.{List, subst}
use Rattle.locked_tables.specs.Known.{GoesOnWithout, KnowsLane}
use Rattle.locked_tables.specs.Taken.{journal_lane}
use Rattle.locked_tables.specs.declared.taken.Taken.{Taken}
use Rattle.locked_tables.proofs.Archive.{goes_on}
use Rattle.locked_tables.proofs.Seats.{learnt_at_rest, listed, same_touch}
use Rattle.locked_tables.proofs.placed_order.PlacedOrder.learn_journal.Goals as goal

pub invariant_of-journal : goal.invariant_of-journal
invariant_of-journal g c =
    let run = g.N.Naming.run in
    let seat = c.journal.inside.seat in
    let order = c.self.inside.seat.list in
    listed run journal_lane order c.learn.new.lane (learnt_at_rest run journal_lane order seat.list seat c.learn.new.lane c.journal.invariant c.learn.ensures.lane c.learn.ensures.last)

pub returns-clause-behind : goal.returns-clause-behind
returns-clause-behind g c =
    let seat = c.journal.inside.seat in
    let order = c.self.inside.seat.list in
    let knows : KnowsLane journal_lane seat.list order = record { begins = c.learn.ensures.begins; last = same_touch g.N.Naming.run journal_lane order seat.list seat c.journal.invariant c.learn.ensures.last } in
    subst (λ (l : List Taken). GoesOnWithout journal_lane l c.args.self.now) c.journal.view_is
    (subst (λ (l : List Taken). GoesOnWithout journal_lane seat.list l) c.self.view_is (goes_on journal_lane seat.list order knows))
