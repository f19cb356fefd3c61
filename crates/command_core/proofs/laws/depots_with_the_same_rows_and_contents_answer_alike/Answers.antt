use Rattle.depots_alike.proofs.Staying.{contents_stay}
use Rattle.depots_alike.proofs.Whole.{step_same, rows_stay}
use Rattle.command_core.proofs.laws.depots_with_the_same_rows_and_contents_answer_alike.Goals as goal

pub returns-clause-step : goal.returns-clause-step
returns-clause-step c = λ d e request left right rows contents.
    step_same d e (record { left = left; right = right; rows = rows; contents = contents }) request

pub returns-clause-rows : goal.returns-clause-rows
returns-clause-rows c = λ d e request dones left right rows contents follow.
    rows_stay d e (record { left = left; right = right; rows = rows; contents = contents }) request dones follow

pub returns-clause-contents : goal.returns-clause-contents
returns-clause-contents c = λ d e deeds left right rows contents.
    contents_stay d e deeds (record { left = left; right = right; rows = rows; contents = contents })
