use Rattle.std.proofs.Common.{◌≡◌, ◌++◌, length}
use Rattle.std.specs.Vec.Iter.{into_iter_items, into_iter_len}
use Rattle.p4_server.specs.Parties.{AreFew, AreFormed, AreRead}
use Rattle.p4_server.proofs.party.read_scripts.Given as goal

abbrev pub invariant-loop-source : goal.invariant-loop-source
invariant-loop-source g l =
    record {
      items : l.yielded ++ into_iter_items l.source-iterator ≡ l.fn.sources.items;
      left : into_iter_len l.source-iterator ≡ length (into_iter_items l.source-iterator);
      read : AreRead g.S.Source.says l.yielded l.scripts.sources.items l.scripts.sessions.items l.scripts.replicas.items l.scripts.ends.items;
      formed : AreFormed l.scripts.sessions.items l.scripts.replicas.items;
      few : AreFew l.scripts.sessions.items l.scripts.replicas.items;
    }
