use Rattle.std.proofs.Common.{◌≡◌, List, sym, subst}
use Rattle.locked_tables.specs.Known.{GoesOnWithout}
use Rattle.locked_tables.specs.Taken.{archive_lane, end_after}
use Rattle.locked_tables.specs.declared.taken.Taken.{Taken}
use Rattle.shared_depot.specs.Common.{KeepsOrder}
use Rattle.shared_depot.proofs.common.CommonDepot.learn_archive.Goals as goal

pub invariant_of-self : goal.invariant_of-self
invariant_of-self g c =
    let D = g.D.Disk in
    subst (λ (l : List Taken). KeepsOrder D.says g.N.Naming.rows g.N.Naming.end g.N.Imaging.images g.N.Serving.begins g.N.Serving.masters l c.self.inside.tables)
    (sym c.learn_archive.ensures.same) c.self.invariant

pub returns-clause-behind : goal.returns-clause-behind
returns-clause-behind g c = subst (GoesOnWithout archive_lane c.args.lane.now) c.self.view_is c.learn_archive.ensures.behind

pub returns-clause-end : goal.returns-clause-end
returns-clause-end g c =
    let end = g.N.Naming.end in
    subst (λ (l : List Taken). end_after end l ≡ end_after end c.args.lane.now) c.self.view_is c.learn_archive.ensures.still
