use Rattle.std.proofs.Common.{rules, ◌≡◌, Result, Err, sym, subst}
use Rattle.std.specs.Result.{IfErr}
use Rattle.replica_chain.specs.Node.{files_of}
use Rattle.replica_chain.proofs.Reached.{goes_first, goes_then}
use Rattle.depot_follow.specs.Following.{HaveStopped}
use Rattle.depot_follow.specs.declared.ended.ChainCause.{ChainCause}
use Rattle.depot_follow.proofs.Followed.{falls_on, no_fewer_now, no_fewer_on, same_falls, stopped_on}
use Rattle.depot_follow.proofs.following.pull_all.Goals as goal

pub loop-init : goal.loop-init
loop-init g c = record {
  can = c.requires.can;
  behind = goes_first g.D.Disk.says g.met.D.Disk.only_now c.args.up.now c.args.node.now;
  no_fewer = no_fewer_now g.D.Disk.says c.args.node.now;
  up_never_falls = same_falls g.D.Disk.says (files_of c.args.up.now);
  node_never_falls = same_falls g.D.Disk.says (files_of c.args.node.now);
}

pub returns-in_err-pull_more-clause-no_fewer : goal.returns-in_err-pull_more-clause-no_fewer
returns-in_err-pull_more-clause-no_fewer g c = no_fewer_on g.D.Disk.says c.args.node.now c.loop.node c.pull_more.new.node c.loop.invariant.no_fewer c.pull_more.ensures.no_fewer

pub returns-in_err-pull_more-clause-stopped : goal.returns-in_err-pull_more-clause-stopped
returns-in_err-pull_more-clause-stopped g c =
    let cause : ChainCause = c.in_err-pull_more.field-0.0 in
    let is : c.from_residual.result ≡ Err cause = search rules in
    subst (λ (result : Result (Unit {0}) ChainCause). IfErr result (HaveStopped g.D.Disk.says c.args.up.now c.args.node.now c.pull_more.new.up c.pull_more.new.node)) (sym is)
    (stopped_on g.D.Disk.says g.met.D.Disk.only_now c.args.up.now c.loop.up c.pull_more.new.up c.args.node.now c.loop.node c.pull_more.new.node c.loop.invariant.behind c.loop.invariant.no_fewer cause
    c.in_err-pull_more.ensures.stopped)

pub loop-preserved : goal.loop-preserved
loop-preserved g c =
    let more = c.pull_more.ensures in record {
      can = more.can;
      behind = goes_then g.D.Disk.says g.met.D.Disk.only_now c.args.up.now c.loop.up c.pull_more.new.up c.args.node.now c.loop.node c.pull_more.new.node c.loop.invariant.behind more.behind;
      no_fewer = no_fewer_on g.D.Disk.says c.args.node.now c.loop.node c.pull_more.new.node c.loop.invariant.no_fewer more.no_fewer;
      up_never_falls = falls_on g.D.Disk.says (files_of c.args.up.now) (files_of c.loop.up) (files_of c.pull_more.new.up) c.loop.invariant.up_never_falls more.up_never_falls;
      node_never_falls = falls_on g.D.Disk.says (files_of c.args.node.now) (files_of c.loop.node) (files_of c.pull_more.new.node) c.loop.invariant.node_never_falls more.node_never_falls;
    }

pub returns-in_err-pull_more-clause-behind : goal.returns-in_err-pull_more-clause-behind
returns-in_err-pull_more-clause-behind g c =
    goes_then g.D.Disk.says g.met.D.Disk.only_now c.args.up.now c.loop.up c.pull_more.new.up c.args.node.now c.loop.node c.pull_more.new.node c.loop.invariant.behind c.pull_more.ensures.behind
