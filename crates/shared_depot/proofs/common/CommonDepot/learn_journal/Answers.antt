use Rattle.std.proofs.Common.{List, sym, subst}
use Rattle.locked_tables.specs.declared.taken.Taken.{Taken}
use Rattle.shared_depot.specs.Common.{GoesOnQuietly, KeepsOrder}
use Rattle.shared_depot.proofs.Quietly.{goes_on_quietly}
use Rattle.shared_depot.proofs.common.CommonDepot.learn_journal.Goals as goal

pub invariant_of-self : goal.invariant_of-self
invariant_of-self g c =
    let D = g.D.Disk in
    subst (λ (l : List Taken). KeepsOrder D.says g.N.Naming.rows g.N.Naming.end g.N.Imaging.images g.N.Serving.begins g.N.Serving.masters l c.self.inside.tables)
    (sym c.learn_journal.ensures.same) c.self.invariant

pub returns-clause-on : goal.returns-clause-on
returns-clause-on g c =
    let D = g.D.Disk in
    let rows = g.N.Naming.rows in
    let end = g.N.Naming.end in
    let images = g.N.Imaging.images in
    let begins = g.N.Serving.begins in
    subst (λ (l : List Taken). GoesOnQuietly D.says rows end images begins c.args.lane.now l) c.self.view_is
    (goes_on_quietly D.says rows end images begins c.args.lane.now c.self.inside.order c.self.invariant.quiet c.learn_journal.ensures.behind)
