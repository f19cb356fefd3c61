use Rattle.std.proofs.lemmas.Result.{IfOk-weaker, on_err_weaker}
use Rattle.depot_rows.specs.depot_model.Commands.{step}
use Rattle.depot_rows.specs.depot_model.Places.{taken}
use Rattle.serial_depot.proofs.Quiet.{no_contents}
use Rattle.followed_depot.proofs.Taken.{none_on, taken_on}
use Rattle.followed_depot.proofs.taking.FollowedDepotTaker.take.Goals as goal

pub returns-clause-ran : goal.returns-clause-ran
returns-clause-ran g c = λ since start places h proper.
    let r = c.take_request-answer in
    taken_on g.D.Disk.says g.F.Following.masters c.args.self.now.depot r.new.self since start places h r.ensures.stored c.args.request r.result (r.ensures.ran since start places h.ran proper) (r.ensures.grows proper)

pub returns-clause-answers : goal.returns-clause-answers
returns-clause-answers g c = λ since start places h proper. c.take_request-answer.ensures.answers since start places h.ran proper

pub returns-clause-nothing : goal.returns-clause-nothing
returns-clause-nothing g c = λ since start places h.
    let r = c.take_request-answer in
    none_on g.D.Disk.says g.F.Following.masters c.args.self.now.depot r.new.self since start places h r.ensures.stored r.result (r.ensures.nothing since start places h.ran) r.ensures.same

pub returns-clause-no_write : goal.returns-clause-no_write
returns-clause-no_write g c = λ since start places h proper same. c.take_request-answer.ensures.no_write (taken step start places) h.ran.over.stand proper same

pub returns-clause-no_call : goal.returns-clause-no_call
returns-clause-no_call g c = λ since start places h proper same none. c.take_request-answer.ensures.no_call (taken step start places) h.ran.over.stand proper same (no_contents _ none)

pub returns-clause-only : goal.returns-clause-only
returns-clause-only g c = IfOk-weaker c.take_request-answer.result _ _ (λ answer stood whole. ((stood whole).journal, (stood whole).archive)) c.take_request-answer.ensures.only

pub returns-clause-no_memory : goal.returns-clause-no_memory
returns-clause-no_memory g c = on_err_weaker c.take_request-answer.result (λ stood. (stood.journal, stood.archive)) c.take_request-answer.ensures.no_memory
