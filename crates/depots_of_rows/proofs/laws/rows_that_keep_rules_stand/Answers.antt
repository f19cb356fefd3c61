use Rattle.depots_of_rows.proofs.Told.{keep_all}
use Rattle.depots_of_rows.proofs.Whole.{stands}
use Rattle.depots_of_rows.proofs.laws.rows_that_keep_rules_stand.Goals as goal

pub returns-clause-some : goal.returns-clause-some
returns-clause-some c = stands

pub returns-clause-no_others : goal.returns-clause-no_others
returns-clause-no_others c = keep_all
