use Rattle.row_reads.proofs.Rights.{same_at, same_somewhere}
use Rattle.row_reads.proofs.laws.depots_with_the_same_rows_give_the_same_rights.Goals as goal

pub returns-clause-at_a_path : goal.returns-clause-at_a_path
returns-clause-at_a_path c = λ d e caller path need left right same. same_at d e caller left right same path need

pub returns-clause-somewhere : goal.returns-clause-somewhere
returns-clause-somewhere c = λ d e caller need left right same. same_somewhere d e caller left right same need
