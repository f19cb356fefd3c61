use Rattle.step_tables.proofs.Rows.{deed_stays}
use Rattle.step_tables.proofs.laws.deeds_change_rows_of_their_tables_alone.Goals as goal

pub returns : goal.returns
returns c = deed_stays
