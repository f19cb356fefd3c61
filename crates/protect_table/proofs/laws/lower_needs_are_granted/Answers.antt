use Rattle.protect_table.proofs.LawLemmas.{lower_at, lower_somewhere}
use Rattle.protect_table.proofs.laws.lower_needs_are_granted.Goals as goal

pub returns-clause-at_a_path : goal.returns-clause-at_a_path
returns-clause-at_a_path c = lower_at

pub returns-clause-somewhere : goal.returns-clause-somewhere
returns-clause-somewhere c = lower_somewhere
