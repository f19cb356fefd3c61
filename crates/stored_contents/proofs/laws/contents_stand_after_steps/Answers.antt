use Rattle.stored_contents.proofs.Whole.{stand_after}
use Rattle.stored_contents.proofs.laws.contents_stand_after_steps.Goals as goal

pub returns : goal.returns
returns c = λ all from d told step changes sound has storing differ new. stand_after all from d told step changes sound has storing differ new
