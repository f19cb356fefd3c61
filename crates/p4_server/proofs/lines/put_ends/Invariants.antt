use Rattle.std.proofs.Common.{◌≡◌, ◌++◌, take}
use Rattle.p4_server.specs.Lines.{end_lines}
use Rattle.p4_server.proofs.lines.put_ends.Given as goal

abbrev pub invariant-loop-party : goal.invariant-loop-party
invariant-loop-party g l = l.out ≡ l.fn.out ++ end_lines (take l.party-index l.parties)
