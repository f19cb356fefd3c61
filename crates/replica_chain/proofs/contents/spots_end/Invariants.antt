use Rattle.std.proofs.Common.{◌≡◌, take, min}
use Rattle.replica_chain.specs.Copying.{named_ends}
use Rattle.replica_chain.proofs.contents.spots_end.Given as goal

abbrev pub invariant-loop-change : goal.invariant-loop-change
invariant-loop-change l = l.end ≡ min (named_ends (take l.change-index l.changes)) 18446744073709551615
