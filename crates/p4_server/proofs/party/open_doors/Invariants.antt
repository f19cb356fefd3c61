use Rattle.std.proofs.Common.{◌≤◌}
use Rattle.program_words.specs.Words.{words_of}
use Rattle.p4_server.proofs.Coming.{FirstsCome}
use Rattle.p4_server.proofs.party.open_doors.Given as goal

abbrev pub invariant-loop-name : goal.invariant-loop-name
invariant-loop-name g l =
    record {
      firsts : FirstsCome g.H.In.Source.says g.H.Out.Sink.says (g.H.Doors.says.input l.fn.doors) (g.H.Doors.says.output l.fn.doors) (words_of l.names) (g.H.Doors.says.input l.doors) (g.H.Doors.says.output l.doors) l.name-index l.came.sources.items l.came.sinks.items;
      counts : g.H.Doors.says.faults l.fn.doors ≤ g.H.Doors.says.faults l.doors;
    }
