use Rattle.std.proofs.Common.{length}
use Rattle.outside_api.specs.Disk.{Files, After, OnFile, Torn, Holds}
use Rattle.outside_api.specs.Moments.{started, goes_on}
use Rattle.outside_api.specs.Steps.{stays, leads_on}
use Rattle.outside_api.proofs.through.write_through.Goals as goal

pub returns-in_err-write_at-clause-any_moment : goal.returns-in_err-write_at-clause-any_moment
returns-in_err-write_at-clause-any_moment g c =
    let P : Files → Type 0 = After (OnFile c.args.file (Torn c.args.at (length c.args.piece.now))) (g.D.Disk.says.may_leave c.args.disk.now) in
    let at_start = started g.D.Disk.says c.args.disk.now P (λ f left. (f, g.met.D.Disk.only_now c.args.disk.now f left, stays c.args.file c.args.at (length c.args.piece.now) f)) in
    goes_on g.D.Disk.says c.args.disk.now c.args.disk.now c.write_at.new.self P at_start c.write_at.ensures.time c.write_at.ensures.crash

pub returns-in_err-sync-clause-any_moment : goal.returns-in_err-sync-clause-any_moment
returns-in_err-sync-clause-any_moment g c =
    let P : Files → Type 0 = After (OnFile c.args.file (Torn c.args.at (length c.args.piece.now))) (g.D.Disk.says.may_leave c.args.disk.now) in
    let at_start = started g.D.Disk.says c.args.disk.now P (λ f left. (f, g.met.D.Disk.only_now c.args.disk.now f left, stays c.args.file c.args.at (length c.args.piece.now) f)) in
    let written = goes_on g.D.Disk.says c.args.disk.now c.args.disk.now c.write_at.new.self P at_start c.write_at.ensures.time c.write_at.ensures.crash in
    goes_on g.D.Disk.says c.args.disk.now c.write_at.new.self c.sync.new.self P written c.sync.ensures.time (λ f now. c.write_at.ensures.crash f (c.sync.ensures.crash f now))

pub returns-clause-written : goal.returns-clause-written
returns-clause-written g c =
    leads_on (OnFile c.args.file (Holds c.args.at c.args.piece.now)) (g.D.Disk.says.seen c.args.disk.now) (g.D.Disk.says.seen c.write_at.new.self) (g.D.Disk.says.seen c.sync.new.self) c.in_ok-write_at.ensures.written c.in_ok-sync.ensures.same

pub returns-clause-any_moment : goal.returns-clause-any_moment
returns-clause-any_moment g c =
    let P : Files → Type 0 = After (OnFile c.args.file (Torn c.args.at (length c.args.piece.now))) (g.D.Disk.says.may_leave c.args.disk.now) in
    let at_start = started g.D.Disk.says c.args.disk.now P (λ f left. (f, g.met.D.Disk.only_now c.args.disk.now f left, stays c.args.file c.args.at (length c.args.piece.now) f)) in
    let written = goes_on g.D.Disk.says c.args.disk.now c.args.disk.now c.write_at.new.self P at_start c.write_at.ensures.time c.write_at.ensures.crash in
    goes_on g.D.Disk.says c.args.disk.now c.write_at.new.self c.sync.new.self P written c.sync.ensures.time (λ f now. c.write_at.ensures.crash f (c.sync.ensures.crash f now))
