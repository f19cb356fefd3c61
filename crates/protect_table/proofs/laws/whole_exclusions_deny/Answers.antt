use Rattle.protect_table.proofs.LawLemmas.{earlier_at, earlier_somewhere, whole_at, whole_somewhere, ordinary_denies}
use Rattle.protect_table.proofs.laws.whole_exclusions_deny.Goals as goal

pub returns-clause-earlier_at_a_path : goal.returns-clause-earlier_at_a_path
returns-clause-earlier_at_a_path c = earlier_at

pub returns-clause-earlier_somewhere : goal.returns-clause-earlier_somewhere
returns-clause-earlier_somewhere c = earlier_somewhere

pub returns-clause-at_a_path : goal.returns-clause-at_a_path
returns-clause-at_a_path c = whole_at

pub returns-clause-somewhere : goal.returns-clause-somewhere
returns-clause-somewhere c = whole_somewhere

pub returns-clause-ordinary : goal.returns-clause-ordinary
returns-clause-ordinary c = ordinary_denies
