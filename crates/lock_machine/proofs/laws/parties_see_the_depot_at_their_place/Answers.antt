use Rattle.depot_model.specs.Tables.{needs_of}
use Rattle.lock_machine.proofs.Progress.{some_enabled}
use Rattle.lock_machine.proofs.Rising.{sets_rise}
use Rattle.lock_machine.proofs.Serving.{serves, saw, works_on, fewer}
use Rattle.lock_machine.proofs.Stopping.{run_stopped}
use Rattle.lock_machine.proofs.laws.parties_see_the_depot_at_their_place.Goals as goal

pub returns-clause-run : goal.returns-clause-run
returns-clause-run c = λ start requests es sound proper tell. serves start requests es sound proper tell

pub returns-clause-sees : goal.returns-clause-sees
returns-clause-sees c = λ start s i p run at_i. saw start s i p run at_i

pub returns-clause-goes : goal.returns-clause-goes
returns-clause-goes c = λ start s i p run at_i unfinished. some_enabled needs_of sets_rise s run.orderly i p at_i unfinished

pub returns-clause-works : goal.returns-clause-works
returns-clause-works c = λ start s i p run at_i some. works_on start s i p run at_i some

pub returns-clause-ends : goal.returns-clause-ends
returns-clause-ends c = λ s i how enabled. fewer s i how enabled

pub returns-clause-stops : goal.returns-clause-stops
returns-clause-stops c = λ start s i run. run_stopped start s run i
