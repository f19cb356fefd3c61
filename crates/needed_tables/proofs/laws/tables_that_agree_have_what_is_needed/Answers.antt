use Rattle.needed_tables.proofs.Whole.{have_needed}
use Rattle.needed_tables.proofs.laws.tables_that_agree_have_what_is_needed.Goals as goal

pub returns : goal.returns
returns c = have_needed
