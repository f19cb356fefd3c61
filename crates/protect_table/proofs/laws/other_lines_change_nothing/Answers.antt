use Rattle.protect_table.proofs.LawLemmas.{other_at, other_somewhere}
use Rattle.protect_table.proofs.laws.other_lines_change_nothing.Goals as goal

pub returns-clause-at_a_path : goal.returns-clause-at_a_path
returns-clause-at_a_path c = other_at

pub returns-clause-somewhere : goal.returns-clause-somewhere
returns-clause-somewhere c = other_somewhere
