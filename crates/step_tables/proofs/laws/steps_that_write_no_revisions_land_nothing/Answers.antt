use Rattle.depot_model.specs.Tables.{own_tables}
use Rattle.depot_model.specs.Commands.{step}
use Rattle.step_tables.proofs.Rows.{landings_stay, revisions_stay, contents_stay}
use Rattle.step_tables.proofs.Whole.{step_stays}
use Rattle.step_tables.proofs.laws.steps_that_write_no_revisions_land_nothing.Goals as goal

pub returns-clause-landings : goal.returns-clause-landings
returns-clause-landings c = λ d request command is away.
    landings_stay (own_tables command).written away d (step d request).deeds (step_stays d request command is).each

pub returns-clause-revisions : goal.returns-clause-revisions
returns-clause-revisions c = λ d request command path is away.
    revisions_stay (own_tables command).written away d (step d request).deeds (step_stays d request command is).each path

pub returns-clause-contents : goal.returns-clause-contents
returns-clause-contents c = λ d request command path n is away.
    contents_stay (own_tables command).written away d (step d request).deeds (step_stays d request command is).each path n
