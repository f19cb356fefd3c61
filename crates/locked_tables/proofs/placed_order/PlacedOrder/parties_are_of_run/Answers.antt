use Rattle.std.proofs.Common.{List, subst}
use Rattle.std.specs.List.{AllByRecursion}
use Rattle.locked_tables.specs.Taken.{IsParty}
use Rattle.locked_tables.specs.declared.taken.Taken.{Taken}
use Rattle.locked_tables.proofs.Parties.{parties_of}
use Rattle.locked_tables.proofs.placed_order.PlacedOrder.parties_are_of_run.Goals as goal

pub returns : goal.returns
returns g c =
    let run = g.N.Naming.run in
    subst (λ (l : List Taken). AllByRecursion (λ taken. IsParty run taken.request.party) l) c.self.view_is (parties_of run c.self.inside.seat.list c.self.invariant.3)
