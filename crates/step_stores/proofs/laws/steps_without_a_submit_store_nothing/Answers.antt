use Rattle.step_stores.proofs.Storing.{made_stores}
use Rattle.step_stores.proofs.laws.steps_without_a_submit_store_nothing.Goals as goal

pub returns : goal.returns
returns c = λ all from d told step made h. made_stores all from d told step made h
