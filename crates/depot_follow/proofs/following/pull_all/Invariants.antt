use Rattle.replica_chain.specs.Chronicle.{Chronicle}
use Rattle.replica_chain.specs.Masters.{GoesOnBehindNode, HasNoFewer}
use Rattle.replica_chain.specs.Node.{CanFollow, IsNode, files_of}
use Rattle.depot_follow.specs.Opening.{NeverFalls}
use Rattle.depot_follow.proofs.following.pull_all.Given as goal

abbrev pub invariant-loop : goal.invariant-loop
invariant-loop g l = record {
  can : CanFollow g.D.Disk.says l.node;
  behind : GoesOnBehindNode g.D.Disk.says l.fn.up l.up l.fn.node l.node;
  no_fewer : (c : Chronicle) → IsNode g.D.Disk.says l.fn.node c → HasNoFewer g.D.Disk.says l.node c;
  up_never_falls : NeverFalls g.D.Disk.says (files_of l.fn.up) (files_of l.up);
  node_never_falls : NeverFalls g.D.Disk.says (files_of l.fn.node) (files_of l.node);
}
