use Rattle.std.proofs.Common.{◌≡◌, ◌++◌, length, map}
use Rattle.std.specs.Vec.Iter.{into_iter_items, into_iter_len}
use Rattle.session_loop.specs.Requests.{AreRequestsOfAll}
use Rattle.run_parties.proofs.asking.all_requests.Given as goal

-- the requests of the sessions that were taken
abbrev pub invariant-loop-session : goal.invariant-loop-session
invariant-loop-session g l = record {
  made : AreRequestsOfAll (g.C.Clock.says.may_give l.clock) 1 l.yielded (map (λ own. own.items) l.requests.items);
  items : l.yielded ++ into_iter_items l.session-iterator ≡ l.fn.sessions.items;
  left : into_iter_len l.session-iterator ≡ length (into_iter_items l.session-iterator);
  count : l.party ≡ length l.yielded;
}
