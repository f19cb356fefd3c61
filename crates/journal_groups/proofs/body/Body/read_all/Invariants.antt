use Rattle.journal_groups.specs.Reader.{HasReadMore}
use Rattle.journal_groups.proofs.body.Body.read_all.Given as goal

abbrev pub invariant-loop-self : goal.invariant-loop-self
invariant-loop-self l = HasReadMore l.bytes l.initial.self l.self

abbrev pub decreases-loop-self : goal.decreases-loop-self
decreases-loop-self l = l.self.size
