use Rattle.std.proofs.Common.{◌≡◌, ◌≤◌, ◌++◌, false, length}
use Rattle.std.specs.Vec.Iter.{into_iter_items, into_iter_len}
use Rattle.party_threads.specs.Entries.{HasTaken}
use Rattle.party_threads.proofs.session.take_commands.Given as goal

-- the commands that were taken so far
abbrev pub invariant-loop-request : goal.invariant-loop-request
invariant-loop-request g l = record {
  party : l.pass.party ≡ l.fn.pass.party;
  taken : HasTaken (g.C.Clock.says.may_give l.clock) g.N.Serving.begins l.fn.pass.party l.fn.requests.items (record { commands = l.commands; failed = false }) (g.K.Sink.says.given l.fn.sink) (g.K.Sink.says.given l.sink) l.pass.list;
  items : l.yielded ++ into_iter_items l.request-iterator ≡ l.fn.requests.items;
  left : into_iter_len l.request-iterator ≡ length (into_iter_items l.request-iterator);
  count : l.commands ≡ length l.yielded;
  counts : g.K.Sink.says.faults l.fn.sink ≤ g.K.Sink.says.faults l.sink;
}
