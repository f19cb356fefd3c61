use Rattle.depot_rows.proofs.Following.{rows_after_all, all_apart}
use Rattle.depot_rows.proofs.laws.deeds_do_so_in_turn.Goals as goal

pub returns-clause-rows : goal.returns-clause-rows
returns-clause-rows c = rows_after_all

pub returns-clause-apart : goal.returns-clause-apart
returns-clause-apart c = all_apart
