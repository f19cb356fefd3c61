use Rattle.std.proofs.Common.{rules, ◌≡◌, Result, Err, sym, subst}
use Rattle.std.specs.Result.{IfErr}
use Rattle.replica_chain.specs.declared.fault.NodeFault.{NodeFault}
use Rattle.replica_chain.proofs.Reached.{goes_pulled}
use Rattle.depot_follow.specs.Ends.{cause_by_pull}
use Rattle.depot_follow.specs.Following.{HaveStopped}
use Rattle.depot_follow.specs.declared.ended.ChainCause.{ChainCause}
use Rattle.depot_follow.proofs.Followed.{pull_stopped}
use Rattle.depot_follow.proofs.following.pull_more.Goals as goal

pub returns-in_err-pull-clause-stopped : goal.returns-in_err-pull-clause-stopped
returns-in_err-pull-clause-stopped g c =
    let fault : NodeFault = c.in_err-pull.field-0.0 in
    let is : c.from_residual.result ≡ Err (cause_by_pull fault) = search rules in
    let up = record c.args.up.now { link = c.pull.new.link; archive = c.pull.new.contents } in
    subst (λ (result : Result (Unit {0}) ChainCause). IfErr result (HaveStopped g.D.Disk.says c.args.up.now c.args.node.now up c.pull.new.self)) (sym is)
    (pull_stopped g.D.Disk.says g.met.D.Disk.only_now c.args.up.now c.args.node.now up c.pull.new.self fault c.in_err-pull.ensures.stopped)

pub returns-in_err-pull-clause-behind : goal.returns-in_err-pull-clause-behind
returns-in_err-pull-clause-behind g c =
    goes_pulled g.D.Disk.says g.met.D.Disk.only_now g.met.D.Disk.reads_an_image g.met.D.Disk.within g.met.D.Disk.reads_one c.args.up.now c.args.node.now c.pull.new.self c.pull.new.link c.pull.new.contents
    c.pull.ensures.link_reached c.pull.ensures.contents_reached c.pull.ensures.keeps c.pull.ensures.behind

pub returns-in-Nothing-clause-behind : goal.returns-in-Nothing-clause-behind
returns-in-Nothing-clause-behind g c =
    goes_pulled g.D.Disk.says g.met.D.Disk.only_now g.met.D.Disk.reads_an_image g.met.D.Disk.within g.met.D.Disk.reads_one c.args.up.now c.args.node.now c.pull.new.self c.pull.new.link c.pull.new.contents
    c.pull.ensures.link_reached c.pull.ensures.contents_reached c.pull.ensures.keeps c.pull.ensures.behind

pub returns-in-Nothing-2-clause-behind : goal.returns-in-Nothing-2-clause-behind
returns-in-Nothing-2-clause-behind g c =
    goes_pulled g.D.Disk.says g.met.D.Disk.only_now g.met.D.Disk.reads_an_image g.met.D.Disk.within g.met.D.Disk.reads_one c.args.up.now c.args.node.now c.pull.new.self c.pull.new.link c.pull.new.contents
    c.pull.ensures.link_reached c.pull.ensures.contents_reached c.pull.ensures.keeps c.pull.ensures.behind

pub returns-in-Taken-clause-behind : goal.returns-in-Taken-clause-behind
returns-in-Taken-clause-behind g c =
    goes_pulled g.D.Disk.says g.met.D.Disk.only_now g.met.D.Disk.reads_an_image g.met.D.Disk.within g.met.D.Disk.reads_one c.args.up.now c.args.node.now c.pull.new.self c.pull.new.link c.pull.new.contents
    c.pull.ensures.link_reached c.pull.ensures.contents_reached c.pull.ensures.keeps c.pull.ensures.behind

pub returns-in-Taken-2-clause-behind : goal.returns-in-Taken-2-clause-behind
returns-in-Taken-2-clause-behind g c =
    goes_pulled g.D.Disk.says g.met.D.Disk.only_now g.met.D.Disk.reads_an_image g.met.D.Disk.within g.met.D.Disk.reads_one c.args.up.now c.args.node.now c.pull.new.self c.pull.new.link c.pull.new.contents
    c.pull.ensures.link_reached c.pull.ensures.contents_reached c.pull.ensures.keeps c.pull.ensures.behind
