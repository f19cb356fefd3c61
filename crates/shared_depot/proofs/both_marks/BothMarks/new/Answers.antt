use Rattle.std.proofs.Common.{◌++◌, ◌∙◌, List, ap, append-nil}
use Rattle.party_marks.specs.declared.mark.Mark.{Mark}
use Rattle.shared_depot.proofs.both_marks.BothMarks.new.Goals as goal

pub returns : goal.returns
returns g c = λ i. record {
  party = c.args.journal.party;
  list = (ap (λ (l : List Mark). c.args.journal.list ++ l) c.requires.none.1 ∙ append-nil c.args.journal.list) i;
}
