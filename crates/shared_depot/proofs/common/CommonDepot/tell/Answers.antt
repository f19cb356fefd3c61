use Rattle.std.proofs.Common.{◌≡◌, List, sym, ap, subst}
use Rattle.locked_tables.specs.Known.{PartyKnown}
use Rattle.locked_tables.specs.declared.taken.Taken.{Taken}
use Rattle.shared_depot.proofs.Links.{heard_all, tells_run}
use Rattle.shared_depot.specs.Common.{KeepsOrder}
use Rattle.shared_depot.specs.Link.{TellsAll}
use Rattle.shared_depot.proofs.common.CommonDepot.tell.Goals as goal

pub invariant_of-self : goal.invariant_of-self
invariant_of-self g c =
    let D = g.D.Disk in
    subst (λ (l : List Taken). KeepsOrder D.says g.N.Naming.rows g.N.Naming.end g.N.Imaging.images g.N.Serving.begins g.N.Serving.masters l c.self.inside.tables)
    (sym c.tell.ensures.same) c.self.invariant

pub returns-clause-heard : goal.returns-clause-heard
returns-clause-heard g c = heard_all c.args.pass.now c.tell.new.pass c.self.inside.order c.tell.ensures.told c.tell.ensures.begins c.tell.ensures.own

pub returns-clause-tells : goal.returns-clause-tells
returns-clause-tells g c =
    let D = g.D.Disk in
    let run = c.self.invariant.run in
    let known : c.tell.new.pass.list ≡ c.self.inside.order = ap (λ (k : PartyKnown). k.list) c.tell.ensures.told in
    subst (TellsAll D.says g.N.Naming.end g.N.Imaging.images g.N.Serving.begins g.N.Serving.masters) (sym known)
    (tells_run D.says g.N.Naming.end g.N.Imaging.images g.N.Serving.begins g.N.Serving.masters g.N.Naming.rows c.self.inside.order run.0 run.1.0 run.1.1)
