use Rattle.std.proofs.Common.{◌≡◌, ◌++◌, [], length, map}
use Rattle.std.specs.Vec.Iter.{into_iter_items, into_iter_len}
use Rattle.lock_machine.specs.Runs.{idle}
use Rattle.lock_core.specs.Core.{AreShown, all_items}
use Rattle.lock_core.specs.Parties.{AllTypedIn}
use Rattle.lock_core.proofs.machine.LockCore.new.Given as goal

-- the parties of the requests that were taken
abbrev pub invariant-loop-party : goal.invariant-loop-party
invariant-loop-party l = record {
  items : l.yielded ++ into_iter_items l.party-iterator ≡ l.fn.requests.items;
  left : into_iter_len l.party-iterator ≡ length (into_iter_items l.party-iterator);
  shown : AreShown [] l.parties.items (map idle (all_items l.yielded));
  typed : AllTypedIn (all_items l.yielded);
}
