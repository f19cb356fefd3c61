use Rattle.std.proofs.Common.{sym, subst}
use Rattle.end_lines.specs.Lines.{cause_line}
use Rattle.end_lines.specs.Telling.{OutGot}
use Rattle.end_lines.proofs.Tellings.{got_lines}
use Rattle.p4_server.proofs.telling.end_alone.Goals as goal

pub returns-clause-told : goal.returns-clause-told
returns-clause-told g c =
    let before = c.args.out.now in
    let now = c.give_cause.new.out in record {
      unrun = c.ended_alone.ensures.unrun;
      lines = subst (λ cause. OutGot (g.K.Sink.says.given before) (g.K.Sink.says.given now) (g.K.Sink.says.faults before) (g.K.Sink.says.faults now) (cause_line cause)) (sym c.ended_alone.ensures.cause)
          (got_lines _ _ _ _ _ c.give_cause.result c.give_cause.ensures.given c.give_cause.ensures.cause);
    }
