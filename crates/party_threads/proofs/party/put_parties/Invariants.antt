use Rattle.std.proofs.Common.{◌≡◌, ◌≤◌, ◌+◌, ◌++◌, length, map, vec_len, vec_capacity}
use Rattle.std.specs.Vec.Iter.{into_iter_items, into_iter_len}
use Rattle.party_threads.specs.declared.party.ThreadParty.{ThreadParty}
use Rattle.party_threads.proofs.party.put_parties.Given as goal

-- the parties so far have the first requests, replicas, passes and sinks
abbrev pub invariant-loop-own : goal.invariant-loop-own
invariant-loop-own g l = record {
  asks : map (λ (p : ThreadParty g.row.K.Denot g.row.N.Denot). p.requests) l.parties.items ≡ l.yielded;
  follows : map (λ (p : ThreadParty g.row.K.Denot g.row.N.Denot). p.replica) l.parties.items ++ into_iter_items l.replicas ≡ l.fn.replicas.items;
  knows : map (λ (p : ThreadParty g.row.K.Denot g.row.N.Denot). p.pass) l.parties.items ++ into_iter_items l.passes ≡ l.fn.passes.items;
  marks_are : map (λ (p : ThreadParty g.row.K.Denot g.row.N.Denot). p.marks) l.parties.items ++ into_iter_items l.marks ≡ l.fn.marks.items;
  gives : map (λ (p : ThreadParty g.row.K.Denot g.row.N.Denot). p.sink) l.parties.items ++ into_iter_items l.sinks ≡ l.fn.sinks.items;
  items : l.yielded ++ into_iter_items l.own-iterator ≡ l.fn.requests.items;
  left : into_iter_len l.own-iterator ≡ length (into_iter_items l.own-iterator);
  left_replicas : into_iter_len l.replicas ≡ length (into_iter_items l.replicas);
  left_passes : into_iter_len l.passes ≡ length (into_iter_items l.passes);
  left_marks : into_iter_len l.marks ≡ length (into_iter_items l.marks);
  left_sinks : into_iter_len l.sinks ≡ length (into_iter_items l.sinks);
  as_many_replicas : length (into_iter_items l.replicas) ≡ length (into_iter_items l.own-iterator);
  as_many : length (into_iter_items l.passes) ≡ length (into_iter_items l.own-iterator);
  as_many_marks : length (into_iter_items l.marks) ≡ length (into_iter_items l.own-iterator);
  as_many_sinks : length (into_iter_items l.sinks) ≡ length (into_iter_items l.own-iterator);
  room : vec_len l.parties + length (into_iter_items l.own-iterator) ≤ vec_capacity l.parties;
}
