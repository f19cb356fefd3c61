use Rattle.depot_model.specs.Tables.{own_tables}
use Rattle.depot_model.specs.Commands.{step}
use Rattle.step_tables.proofs.Rows.{rows_stay}
use Rattle.step_tables.proofs.Whole.{step_stays}
use Rattle.step_tables.proofs.laws.steps_change_rows_of_written_tables_alone.Goals as goal

pub returns-clause-deeds : goal.returns-clause-deeds
returns-clause-deeds c = λ d request command is. (step_stays d request command is).each

pub returns-clause-rows : goal.returns-clause-rows
returns-clause-rows c = λ d request command key is away.
    rows_stay (own_tables command).written key away d (step d request).deeds (step_stays d request command is).each
