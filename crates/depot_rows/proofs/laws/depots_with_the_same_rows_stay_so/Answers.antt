use Rattle.depot_rows.proofs.Twins.{follow_same, rows_same}
use Rattle.depot_rows.proofs.laws.depots_with_the_same_rows_stay_so.Goals as goal

pub returns-clause-follow : goal.returns-clause-follow
returns-clause-follow c = follow_same

pub returns-clause-rows : goal.returns-clause-rows
returns-clause-rows c = rows_same
