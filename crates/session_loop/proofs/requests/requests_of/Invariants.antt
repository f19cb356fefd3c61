use Rattle.std.proofs.Common.{◌≡◌, ◌++◌, length}
use Rattle.std.specs.Vec.Iter.{into_iter_items, into_iter_len}
use Rattle.session_loop.specs.Requests.{AreRequests}
use Rattle.session_loop.proofs.requests.requests_of.Given as goal

-- the requests of the commands that were taken
abbrev pub invariant-loop-asked : goal.invariant-loop-asked
invariant-loop-asked g l = record {
  made : AreRequests (g.C.Clock.says.may_give l.clock) l.party 1 l.fn.session.caller l.yielded l.requests.items;
  items : l.yielded ++ into_iter_items l.asked-iterator ≡ l.fn.session.commands;
  left : into_iter_len l.asked-iterator ≡ length (into_iter_items l.asked-iterator);
  count : l.number ≡ length l.yielded;
}
