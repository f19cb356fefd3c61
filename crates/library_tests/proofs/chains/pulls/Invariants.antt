use Rattle.replica_chain.specs.Node.{CanFollow}
use Rattle.library_tests.proofs.chains.pulls.Given as goal

abbrev pub invariant-loop-answer : goal.invariant-loop-answer
invariant-loop-answer g l = CanFollow g.D.Disk.says l.node
