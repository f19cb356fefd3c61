use Rattle.std.proofs.Common.{◌≡◌, ◌+◌, false, length}
use Rattle.party_threads.proofs.Answering.{HasAnswered}
use Rattle.party_threads.proofs.replicas.answer_commands.Given as goal

-- the commands that were answered so far
abbrev pub invariant-loop-number : goal.invariant-loop-number
invariant-loop-number g l = record {
  marks_party : l.marks.party ≡ l.fn.marks.party;
  total : l.total ≡ length l.fn.replica.left.items;
  left : length l.replica.left.items + l.number ≡ l.total;
  answered : HasAnswered g.D.Disk.says g.N.Naming.end g.N.Imaging.images g.N.Serving.begins g.N.Serving.masters g.K.Sink.says (g.C.Clock.says.may_give l.clock) l.fn.pass.party l.fn.replica l.fn.sink
      l.number false l.pass l.marks l.replica l.sink;
}
