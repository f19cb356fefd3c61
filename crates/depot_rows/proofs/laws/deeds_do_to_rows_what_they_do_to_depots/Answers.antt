use Rattle.depot_rows.proofs.Following.{rows_by, needed, rows_after, stays_apart}
use Rattle.depot_rows.proofs.laws.deeds_do_to_rows_what_they_do_to_depots.Goals as goal

pub returns-clause-rows : goal.returns-clause-rows
returns-clause-rows c = rows_after

pub returns-clause-apart : goal.returns-clause-apart
returns-clause-apart c = stays_apart

pub returns-clause-least : goal.returns-clause-least
returns-clause-least c = rows_by

pub returns-clause-needed : goal.returns-clause-needed
returns-clause-needed c = needed
