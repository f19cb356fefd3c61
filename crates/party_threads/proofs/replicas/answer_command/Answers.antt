use Rattle.std.proofs.Common.{Ok, Err}
use Rattle.party_threads.proofs.Answering.{turn_plain}
use Rattle.party_threads.proofs.replicas.answer_command.Goals as goal

pub returns-in-Ok-clause-step : goal.returns-in-Ok-clause-step
returns-in-Ok-clause-step g c = record {
  result = Ok c.in-Ok.field-0;
  turn = turn_plain g.D.Disk.says g.N.Naming.end g.N.Imaging.images g.N.Serving.begins g.N.Serving.masters c.args.pass.now c.answer_replica.new.pass c.args.marks.now c.answer_replica.new.marks
      c.args.replica.now c.answer_replica.new.replica (Ok c.in-Ok.field-0) c.in-Ok.ensures.turn;
  got = c.give.ensures.got;
  counts = c.give.ensures.counts;
  cause = c.give.ensures.cause;
}

pub returns-in-Err-clause-step : goal.returns-in-Err-clause-step
returns-in-Err-clause-step g c = record {
  result = Err tt;
  turn = turn_plain g.D.Disk.says g.N.Naming.end g.N.Imaging.images g.N.Serving.begins g.N.Serving.masters c.args.pass.now c.answer_replica.new.pass c.args.marks.now c.answer_replica.new.marks
      c.args.replica.now c.answer_replica.new.replica (Err c.in-Err.field-0) c.in-Err.ensures.turn;
  got = c.give-in-Err.ensures.got;
  counts = c.give-in-Err.ensures.counts;
  cause = c.give-in-Err.ensures.cause;
}
