use Rattle.std.proofs.Common.{◌≡◌, ◌≤◌, ◌+◌, ◌++◌, length, vec_len, vec_capacity}
use Rattle.std.specs.Vec.Iter.{into_iter_items, into_iter_len}
use Rattle.party_threads.specs.Parties.{AreCollected}
use Rattle.party_threads.proofs.threads.collect.Given as goal

-- what the parties so far leave
abbrev pub invariant-loop-party : goal.invariant-loop-party
invariant-loop-party g l = record {
  same : l.depot ≡ l.fn.depot;
  collected : AreCollected l.fn.depot l.yielded l.runs.items l.sinks.items l.lost;
  items : l.yielded ++ into_iter_items l.party-iterator ≡ l.fn.parties.items;
  left : into_iter_len l.party-iterator ≡ length (into_iter_items l.party-iterator);
  room : vec_len l.runs + length (into_iter_items l.party-iterator) ≤ vec_capacity l.runs;
  room_for_sinks : vec_len l.sinks + length (into_iter_items l.party-iterator) ≤ vec_capacity l.sinks;
}
