use Rattle.depot_rows.proofs.CutRows.{rows_cut}
use Rattle.depot_rows.proofs.laws.rows_of_a_cut_depot_are_the_rows_cut.Goals as goal

pub returns : goal.returns
returns c = λ rules d q paths. rows_cut rules d paths q
