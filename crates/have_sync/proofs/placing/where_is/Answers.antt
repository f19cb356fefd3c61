use Rattle.have_sync.proofs.placing.where_is.Goals as goal

pub returns : goal.returns
returns c = λ d spell asked. c.in_ok-step.ensures d spell asked asked
