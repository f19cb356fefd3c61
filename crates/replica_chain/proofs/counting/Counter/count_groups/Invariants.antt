use Rattle.std.proofs.Common.{◌≡◌, ℕ, List, length}
use Rattle.replica_chain.specs.Counting.{HasCounted}
use Rattle.replica_chain.proofs.counting.Counter.count_groups.Given as goal

abbrev pub invariant-loop-changes : goal.invariant-loop-changes
invariant-loop-changes l = record {
  counted : (text : List ℕ) → HasCounted text l.fn.self.reader l.fn.self.groups → HasCounted text l.self.reader l.self.groups;
  bytes : l.self.bytes ≡ l.fn.self.bytes;
}

abbrev pub decreases-loop-changes : goal.decreases-loop-changes
decreases-loop-changes l = length l.self.reader.left
