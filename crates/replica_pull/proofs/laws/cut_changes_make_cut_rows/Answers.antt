use Rattle.replica_pull.proofs.Cutting.{rows_after, fit_after, depot_rows}
use Rattle.replica_pull.proofs.laws.cut_changes_make_cut_rows.Goals as goal

pub returns-clause-rows : goal.returns-clause-rows
returns-clause-rows c = rows_after

pub returns-clause-fit : goal.returns-clause-fit
returns-clause-fit c = fit_after

pub returns-clause-depot : goal.returns-clause-depot
returns-clause-depot c = depot_rows
