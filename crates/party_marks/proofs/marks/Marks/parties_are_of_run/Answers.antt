use Rattle.std.proofs.Common.{All, subst}
use Rattle.party_marks.specs.Known.{MarksKnown}
use Rattle.party_marks.specs.Marks.{IsMarkOf}
use Rattle.party_marks.proofs.marks.Marks.parties_are_of_run.Goals as goal

pub returns : goal.returns
returns g c = subst (λ (m : MarksKnown). All (IsMarkOf g.N.Marking.marks) m.list) c.self.view_is c.self.invariant.1
