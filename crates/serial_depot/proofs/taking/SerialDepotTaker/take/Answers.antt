use Rattle.std.proofs.lemmas.Result.{IfOk-weaker, on_err_weaker}
use Rattle.depot_rows.specs.depot_model.Commands.{step}
use Rattle.depot_rows.specs.depot_model.Places.{taken}
use Rattle.serial_depot.proofs.Quiet.{no_contents}
use Rattle.serial_depot.proofs.taking.SerialDepotTaker.take.Goals as goal

pub returns-clause-no_write : goal.returns-clause-no_write
returns-clause-no_write g c = λ since start places run proper same. c.take_request-answer.ensures.no_write (taken step start places) run.over.stand proper same

pub returns-clause-no_call : goal.returns-clause-no_call
returns-clause-no_call g c = λ since start places run proper same none. c.take_request-answer.ensures.no_call (taken step start places) run.over.stand proper same (no_contents _ none)

pub returns-clause-only : goal.returns-clause-only
returns-clause-only g c = IfOk-weaker c.take_request-answer.result _ _ (λ answer stood whole. ((stood whole).journal, (stood whole).archive)) c.take_request-answer.ensures.only

pub returns-clause-no_memory : goal.returns-clause-no_memory
returns-clause-no_memory g c = on_err_weaker c.take_request-answer.result (λ stood. (stood.journal, stood.archive)) c.take_request-answer.ensures.no_memory
