use Rattle.std.proofs.Common.{◌≡◌, ◌++◌, length, map}
use Rattle.std.specs.Vec.Iter.{into_iter_items, into_iter_len}
use Rattle.lock_core.specs.Parties.{AllFresh, AreTyped}
use Rattle.lock_core.proofs.Turning.{request_in}
use Rattle.lock_core.proofs.beginning.idle_party.Given as goal

-- the requests that were taken
abbrev pub invariant-loop-request : goal.invariant-loop-request
invariant-loop-request l = record {
  items : l.yielded ++ into_iter_items l.request-iterator ≡ l.fn.requests.items;
  left : into_iter_len l.request-iterator ≡ length (into_iter_items l.request-iterator);
  taken : map request_in l.left.items ≡ l.yielded;
  fresh : AllFresh l.left.items;
  typed : AreTyped l.yielded;
}
