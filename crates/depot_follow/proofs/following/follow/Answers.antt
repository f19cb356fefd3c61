use Rattle.std.proofs.Common.{rules, ◌≡◌, ℕ, IsTrue, Option, Result, Err, sym, ap, subst, ◌∙◌}
use Rattle.std.proofs.lemmas.Bool.{false≢true}
use Rattle.std.specs.Result.{IfErr}
use Rattle.depot_rows.specs.table_changes.Changed.{rows_of}
use Rattle.replica_chain.specs.Apart.{IsComparison}
use Rattle.replica_chain.specs.declared.apart.Departure.{Departure}
use Rattle.replica_chain.specs.declared.fault.NodeFault.{NodeFault}
use Rattle.replica_chain.specs.declared.node.Node.{Node}
use Rattle.replica_chain.proofs.Reached.{goes_then}
use Rattle.depot_follow.specs.Ends.{cause_by_pull}
use Rattle.depot_follow.specs.Following.{AgreeWith, HasStopped}
use Rattle.depot_follow.specs.declared.ended.ChainCause.{ChainCause}
use Rattle.depot_follow.specs.declared.following.Figures.{Figures}
use Rattle.depot_follow.proofs.Followed.{agree_of, looked_of, no_fewer_kept, no_fewer_on, stopped_of, stopped_on, verified_of}
use Rattle.depot_follow.proofs.Copied.{as_far, bad_then, compared, other_rows, same_tables, takes_all, verified}
use Rattle.depot_follow.proofs.following.follow.Goals as goal

pub returns-in_err-departure-clause-no_fewer : goal.returns-in_err-departure-clause-no_fewer
returns-in_err-departure-clause-no_fewer g c = no_fewer_kept g.D.Disk.says c.args.node.now c.departs.new.self (λ d. (c.departs.ensures.nodes d).0)

pub returns-in-Some-clause-no_fewer : goal.returns-in-Some-clause-no_fewer
returns-in-Some-clause-no_fewer g c = no_fewer_kept g.D.Disk.says c.args.node.now c.departs.new.self (λ d. (c.departs.ensures.nodes d).0)

pub returns-in-Some-clause-ended : goal.returns-in-Some-clause-ended
returns-in-Some-clause-ended g c =
    let departs = c.departs.ensures in (
      λ texts others of_node of_up. subst (λ (found : Option Departure). IsComparison texts others found) c.in-Some.is (c.in_ok-departure.ensures.exactly texts others of_node of_up),
      looked_of g.D.Disk.says c.args.up.now c.args.node.now c.departs.new.up c.departs.new.self departs.up_looked departs.node_looked departs.others.1 departs.others.0,
    )

pub returns-in_err-pull_all-clause-no_fewer : goal.returns-in_err-pull_all-clause-no_fewer
returns-in_err-pull_all-clause-no_fewer g c =
    no_fewer_on g.D.Disk.says c.args.node.now c.departs.new.self c.pull_all.new.node (no_fewer_kept g.D.Disk.says c.args.node.now c.departs.new.self (λ d. (c.departs.ensures.nodes d).0)) c.pull_all.ensures.no_fewer

pub returns-in_err-pull_all-clause-ended : goal.returns-in_err-pull_all-clause-ended
returns-in_err-pull_all-clause-ended g c =
    let departs = c.departs.ensures in
    let cause : ChainCause = c.in_err-pull_all.field-0.0 in
    let is : c.from_residual-in_err-pull_all.result ≡ Err cause = search rules in
    let agree : AgreeWith g.D.Disk.says c.args.up.now c.args.node.now = λ texts others of_node of_up. agree_of texts others _ (λ departure. c.in_default.not-Some departure) (c.in_ok-departure.ensures.exactly texts others of_node of_up) in
    subst (λ (result : Result Figures ChainCause). IfErr result (HasStopped g.D.Disk.says c.args.up.now c.args.node.now c.pull_all.new.up c.pull_all.new.node)) (sym is)
    (stopped_of g.D.Disk.says c.args.up.now c.args.node.now c.pull_all.new.up c.pull_all.new.node cause
    (stopped_on g.D.Disk.says g.met.D.Disk.only_now c.args.up.now c.departs.new.up c.pull_all.new.up c.args.node.now c.departs.new.self c.pull_all.new.node
    (compared g.D.Disk.says g.met.D.Disk.only_now c.args.up.now c.args.node.now c.departs.new.up c.departs.new.self departs.links.1 departs.links.0 departs.others.1 departs.others.0)
    (no_fewer_kept g.D.Disk.says c.args.node.now c.departs.new.self (λ d. (departs.nodes d).0)) cause c.in_err-pull_all.ensures.stopped) agree)

pub returns-in_err-verified-clause-ended : goal.returns-in_err-verified-clause-ended
returns-in_err-verified-clause-ended g c =
    let verify = c.verify.ensures in
    let fault : NodeFault = c.in_err-verified.field-0.0 in
    let is : c.from_residual-in_err-verified.result ≡ Err (cause_by_pull fault) = search rules in
    let agree : AgreeWith g.D.Disk.says c.args.up.now c.args.node.now = λ texts others of_node of_up. agree_of texts others _ (λ departure. c.in_default.not-Some departure) (c.in_ok-departure.ensures.exactly texts others of_node of_up) in
    subst (λ (result : Result Figures ChainCause). IfErr result (HasStopped g.D.Disk.says c.args.up.now c.args.node.now c.pull_all.new.up c.verify.new.self)) (sym is)
    (verified_of g.D.Disk.says c.args.up.now c.args.node.now c.pull_all.new.up c.verify.new.self fault c.in_err-verified.ensures.only agree
    (as_far g.D.Disk.says g.met.D.Disk.only_now c.args.up.now c.departs.new.up c.pull_all.new.node c.verify.new.self (λ d. (c.departs.ensures.nodes d).1) verify.others _ _
    (ap (λ (p : ℕ × ℕ). p.0) c.position-generation.ensures) (ap (λ (p : ℕ × ℕ). p.1) c.position-generation.ensures) c.in_ok-pull_all.ensures.position)
    (bad_then g.D.Disk.says g.met.D.Disk.only_now c.pull_all.new.node c.verify.new.self verify.others verify.reads fault c.in_err-verified.ensures.bad))

pub returns-in_err-verified-clause-no_fewer : goal.returns-in_err-verified-clause-no_fewer
returns-in_err-verified-clause-no_fewer g c =
    no_fewer_on g.D.Disk.says c.args.node.now c.pull_all.new.node c.verify.new.self
    (no_fewer_on g.D.Disk.says c.args.node.now c.departs.new.self c.pull_all.new.node (no_fewer_kept g.D.Disk.says c.args.node.now c.departs.new.self (λ d. (c.departs.ensures.nodes d).0)) c.pull_all.ensures.no_fewer)
    (no_fewer_kept g.D.Disk.says c.pull_all.new.node c.verify.new.self c.verify.ensures.node)

pub returns-clause-agrees : goal.returns-clause-agrees
returns-clause-agrees g c = λ texts others of_node of_up. agree_of texts others _ (λ departure. c.in_default.not-Some departure) (c.in_ok-departure.ensures.exactly texts others of_node of_up)

pub returns-clause-no_fewer : goal.returns-clause-no_fewer
returns-clause-no_fewer g c =
    no_fewer_on g.D.Disk.says c.args.node.now c.pull_all.new.node c.verify.new.self
    (no_fewer_on g.D.Disk.says c.args.node.now c.departs.new.self c.pull_all.new.node (no_fewer_kept g.D.Disk.says c.args.node.now c.departs.new.self (λ d. (c.departs.ensures.nodes d).0)) c.pull_all.ensures.no_fewer)
    (no_fewer_kept g.D.Disk.says c.pull_all.new.node c.verify.new.self c.verify.ensures.node)

pub returns-clause-all : goal.returns-clause-all
returns-clause-all g c =
    let departs = c.departs.ensures in
    let verify = c.verify.ensures in
    let first = compared g.D.Disk.says g.met.D.Disk.only_now c.args.up.now c.args.node.now c.departs.new.up c.departs.new.self departs.links.1 departs.links.0 departs.others.1 departs.others.0 in
    let pulled = goes_then g.D.Disk.says g.met.D.Disk.only_now c.args.up.now c.departs.new.up c.pull_all.new.up c.args.node.now c.departs.new.self c.pull_all.new.node first c.pull_all.ensures.behind in
    let all = verified g.D.Disk.says g.met.D.Disk.only_now c.args.up.now c.pull_all.new.up c.args.node.now c.pull_all.new.node c.verify.new.self pulled verify.others verify.reads verify.used in
    takes_all g.D.Disk.says g.met.D.Disk.only_now c.args.up.now c.args.node.now c.departs.new.up c.departs.new.self c.pull_all.new.up c.pull_all.new.node c.verify.new.self first all verify.others _ _
    (ap (λ (p : ℕ × ℕ). p.0) c.position-generation.ensures) (ap (λ (p : ℕ × ℕ). p.1) c.position-generation.ensures) c.in_ok-pull_all.ensures.position

pub returns-in_err-departure-clause-behind : goal.returns-in_err-departure-clause-behind
returns-in_err-departure-clause-behind g c =
    let departs = c.departs.ensures in
    compared g.D.Disk.says g.met.D.Disk.only_now c.args.up.now c.args.node.now c.departs.new.up c.departs.new.self departs.links.1 departs.links.0 departs.others.1 departs.others.0

pub returns-in-Some-clause-behind : goal.returns-in-Some-clause-behind
returns-in-Some-clause-behind g c =
    let departs = c.departs.ensures in
    compared g.D.Disk.says g.met.D.Disk.only_now c.args.up.now c.args.node.now c.departs.new.up c.departs.new.self departs.links.1 departs.links.0 departs.others.1 departs.others.0

pub returns-in_err-pull_all-clause-behind : goal.returns-in_err-pull_all-clause-behind
returns-in_err-pull_all-clause-behind g c =
    let departs = c.departs.ensures in
    goes_then g.D.Disk.says g.met.D.Disk.only_now c.args.up.now c.departs.new.up c.pull_all.new.up c.args.node.now c.departs.new.self c.pull_all.new.node
    (compared g.D.Disk.says g.met.D.Disk.only_now c.args.up.now c.args.node.now c.departs.new.up c.departs.new.self departs.links.1 departs.links.0 departs.others.1 departs.others.0) c.pull_all.ensures.behind

pub returns-in_err-verified-clause-behind : goal.returns-in_err-verified-clause-behind
returns-in_err-verified-clause-behind g c =
    let departs = c.departs.ensures in
    let verify = c.verify.ensures in
    let pulled = goes_then g.D.Disk.says g.met.D.Disk.only_now c.args.up.now c.departs.new.up c.pull_all.new.up c.args.node.now c.departs.new.self c.pull_all.new.node (compared g.D.Disk.says g.met.D.Disk.only_now c.args.up.now c.args.node.now c.departs.new.up c.departs.new.self departs.links.1 departs.links.0 departs.others.1 departs.others.0) c.pull_all.ensures.behind in
    verified g.D.Disk.says g.met.D.Disk.only_now c.args.up.now c.pull_all.new.up c.args.node.now c.pull_all.new.node c.verify.new.self pulled verify.others verify.reads verify.used

pub returns-clause-behind : goal.returns-clause-behind
returns-clause-behind g c =
    let departs = c.departs.ensures in
    let verify = c.verify.ensures in
    let pulled = goes_then g.D.Disk.says g.met.D.Disk.only_now c.args.up.now c.departs.new.up c.pull_all.new.up c.args.node.now c.departs.new.self c.pull_all.new.node (compared g.D.Disk.says g.met.D.Disk.only_now c.args.up.now c.args.node.now c.departs.new.up c.departs.new.self departs.links.1 departs.links.0 departs.others.1 departs.others.0) c.pull_all.ensures.behind in
    verified g.D.Disk.says g.met.D.Disk.only_now c.args.up.now c.pull_all.new.up c.args.node.now c.pull_all.new.node c.verify.new.self pulled verify.others verify.reads verify.used

pub returns-then-not-same_rows-clause-no_fewer : goal.returns-then-not-same_rows-clause-no_fewer
returns-then-not-same_rows-clause-no_fewer g c =
    no_fewer_on g.D.Disk.says c.args.node.now c.departs.new.self c.pull_all.new.node (no_fewer_kept g.D.Disk.says c.args.node.now c.departs.new.self (λ d. (c.departs.ensures.nodes d).0)) c.pull_all.ensures.no_fewer

pub returns-then-not-same_rows-clause-behind : goal.returns-then-not-same_rows-clause-behind
returns-then-not-same_rows-clause-behind g c =
    let departs = c.departs.ensures in
    goes_then g.D.Disk.says g.met.D.Disk.only_now c.args.up.now c.departs.new.up c.pull_all.new.up c.args.node.now c.departs.new.self c.pull_all.new.node
    (compared g.D.Disk.says g.met.D.Disk.only_now c.args.up.now c.args.node.now c.departs.new.up c.departs.new.self departs.links.1 departs.links.0 departs.others.1 departs.others.0) c.pull_all.ensures.behind

pub returns-then-not-same_rows-clause-ended : goal.returns-then-not-same_rows-clause-ended
returns-then-not-same_rows-clause-ended g c =
    let departs = c.departs.ensures in
    let node_rows = ap rows_of c.tables.ensures in
    let up_rows = ap rows_of c.tables-2.ensures in
    let first = compared g.D.Disk.says g.met.D.Disk.only_now c.args.up.now c.args.node.now c.departs.new.up c.departs.new.self departs.links.1 departs.links.0 departs.others.1 departs.others.0 in (
      λ texts others of_node of_up. agree_of texts others _ (λ departure. c.in_default.not-Some departure) (c.in_ok-departure.ensures.exactly texts others of_node of_up),
      other_rows g.D.Disk.says g.met.D.Disk.only_now c.args.up.now c.args.node.now c.departs.new.up c.departs.new.self c.pull_all.new.up c.pull_all.new.node (λ d. (departs.nodes d).1) departs.others.1 first
          c.pull_all.ensures.behind _ _ (ap (λ (p : ℕ × ℕ). p.0) c.position-generation.ensures) (ap (λ (p : ℕ × ℕ). p.1) c.position-generation.ensures) c.in_ok-pull_all.ensures.position
          (λ same. false≢true (subst IsTrue c.if-not-same_rows.true (c.same_rows.ensures.1 (node_rows ∙ same ∙ sym up_rows)))),
    )

pub returns-clause-rows : goal.returns-clause-rows
returns-clause-rows g c =
    let verify = c.verify.ensures in
    let node_rows = ap rows_of c.tables.ensures in
    let up_rows = ap rows_of c.tables-2.ensures in
    ap (λ (n : Node g.row.D.Denot). rows_of n.tables) verify.others
    ∙ sym node_rows
    ∙ c.same_rows.ensures.0 c.if-not-same_rows.false
    ∙ up_rows
    ∙ same_tables g.D.Disk.says g.met.D.Disk.only_now c.args.up.now c.departs.new.up c.pull_all.new.up c.departs.new.self c.pull_all.new.node c.departs.ensures.others.1 c.pull_all.ensures.behind
