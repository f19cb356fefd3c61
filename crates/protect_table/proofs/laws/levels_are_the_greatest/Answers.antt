use Rattle.protect_table.specs.Rights.{may, may_any}
use Rattle.protect_table.proofs.LawLemmas.{greatest_passes, greatest_most}
use Rattle.protect_table.proofs.laws.levels_are_the_greatest.Goals as goal

pub returns-clause-granted : goal.returns-clause-granted
returns-clause-granted c = λ lines who path h. greatest_passes (may lines who path) h

pub returns-clause-greatest : goal.returns-clause-greatest
returns-clause-greatest c = λ lines who path need one six h. greatest_most (may lines who path) need one six h

pub returns-clause-granted_somewhere : goal.returns-clause-granted_somewhere
returns-clause-granted_somewhere c = λ lines who h. greatest_passes (may_any lines who) h

pub returns-clause-greatest_somewhere : goal.returns-clause-greatest_somewhere
returns-clause-greatest_somewhere c = λ lines who need one six h. greatest_most (may_any lines who) need one six h
