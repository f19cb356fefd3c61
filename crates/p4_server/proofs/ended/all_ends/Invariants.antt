use Rattle.std.proofs.Common.{◌≡◌, ◌+◌, ◌++◌, drop, length}
use Rattle.std.specs.Vec.Iter.{into_iter_items, into_iter_len}
use Rattle.p4_server.specs.Ends.{ended_parties}
use Rattle.p4_server.proofs.ended.all_ends.Given as goal

-- the ends so far, and then those that are left
abbrev pub invariant-loop-sink : goal.invariant-loop-sink
invariant-loop-sink g l =
    record {
      ended : l.parties ++ ended_parties (length l.parties + 1) (drop (length l.parties) l.runs) (drop (length l.parties) l.ends) (into_iter_items l.sink-iterator) ≡ ended_parties 1 l.runs l.ends l.fn.sinks.items;
      count : length l.parties + length (into_iter_items l.sink-iterator) ≡ length l.fn.sinks.items;
      left : into_iter_len l.sink-iterator ≡ length (into_iter_items l.sink-iterator);
    }
