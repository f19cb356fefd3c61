use Rattle.std.proofs.Common.{◌≡◌, ◌++◌, length}
use Rattle.std.specs.Vec.Iter.{into_iter_items, into_iter_len}
use Rattle.run_parties.specs.Asking.{AreFresh}
use Rattle.run_parties.proofs.asking.replica_parties.Given as goal

-- the replicas of the scripts that were taken
abbrev pub invariant-loop-script : goal.invariant-loop-script
invariant-loop-script g l = record {
  made : AreFresh (g.C.Clock.says.may_give l.clock) 1 l.yielded l.parties.items;
  items : l.yielded ++ into_iter_items l.script-iterator ≡ l.fn.scripts.items;
  left : into_iter_len l.script-iterator ≡ length (into_iter_items l.script-iterator);
  count : l.party ≡ length l.yielded;
}
