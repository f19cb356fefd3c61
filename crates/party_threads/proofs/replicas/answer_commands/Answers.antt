use Rattle.std.proofs.Common.{◌≡◌, ◌+◌, ◌∙◌, ℕ, Bool, true, false, refl, subst, arith}
use Rattle.party_threads.proofs.Answering.{answered_more, answered_none, failed_end, replica_served}
use Rattle.party_threads.specs.Replicas.{IsReplicaServed, IsStep}
use Rattle.shared_depot.specs.Replicas.{mark_count}
use Rattle.party_threads.proofs.replicas.answer_commands.Goals as goal

pub loop-number-init : goal.loop-number-init
loop-number-init g c =
    let D = g.D.Disk in
    let few = c.requires.few in
    let total = c.left_count-total.ensures (omega (arith, few)) in
    record {
      marks_party = refl;
      total = total;
      left = omega (arith, total);
      answered = answered_none D.says g.N.Naming.end g.N.Imaging.images g.N.Serving.begins g.N.Serving.masters g.K.Sink.says (g.C.Clock.says.may_give c.args.clock.now) c.args.pass.now.party c.args.replica c.args.sink.now
          c.args.pass.now c.args.marks.now refl c.requires.fresh c.requires.unmarked;
    }

pub loop-number-preserved : goal.loop-number-preserved
loop-number-preserved g c =
    let D = g.D.Disk in
    let at = c.loop-number in
    let was = at.invariant in
    let next = c.answer_command.ensures in
    let new = c.answer_command.new in
    let Step : Bool → Type 0 = λ failed. IsStep D.says g.N.Naming.end g.N.Imaging.images g.N.Serving.begins g.N.Serving.masters g.K.Sink.says (at.number + 1) at.pass new.pass at.marks new.marks at.replica new.replica at.sink new.sink failed in
    let all = was.left in
    let fewer = next.left in
    record {
      marks_party = next.step.turn.heard.marks_party ∙ was.marks_party;
      total = was.total;
      left = omega (arith, all, fewer);
      answered = answered_more D.says g.N.Naming.end g.N.Imaging.images g.N.Serving.begins g.N.Serving.masters g.K.Sink.says (g.C.Clock.says.may_give c.args.clock.now) c.args.pass.now.party c.args.replica c.args.sink.now
          g.met.D.Disk.reads_an_image at.number false at.pass new.pass at.marks new.marks at.replica new.replica at.sink new.sink was.answered (subst Step c.if-answer_command.false next.step);
    }

pub returns-then-answer_command-clause-served : goal.returns-then-answer_command-clause-served
returns-then-answer_command-clause-served g c =
    let D = g.D.Disk in
    let at = c.loop-number in
    let was = at.invariant in
    let new = c.answer_command.new in
    let end = g.N.Naming.end in
    let images = g.N.Imaging.images in
    let begins = g.N.Serving.begins in
    let may_give = g.C.Clock.says.may_give c.args.clock.now in
    let party = c.args.pass.now.party in
    let Step : Bool → Type 0 = λ failed. IsStep D.says end images begins g.N.Serving.masters g.K.Sink.says (at.number + 1) at.pass new.pass at.marks new.marks at.replica new.replica at.sink new.sink failed in
    let step : Step true = subst Step c.if-answer_command.true c.answer_command.ensures.step in
    let total = was.total in
    let test = c.loop-number-test.true in
    replica_served D.says end images begins g.N.Serving.masters g.K.Sink.says may_give party c.args.replica c.args.sink.now (at.number + 1) true new.pass new.marks new.replica new.sink
    (answered_more D.says end images begins g.N.Serving.masters g.K.Sink.says may_give party c.args.replica c.args.sink.now g.met.D.Disk.reads_an_image at.number true at.pass new.pass at.marks new.marks at.replica new.replica at.sink new.sink was.answered step)
    (failed_end D.says end images begins g.N.Serving.masters g.K.Sink.says may_give party c.args.replica c.args.sink.now g.met.D.Disk.reads_an_image at.number true at.pass new.pass at.marks new.marks at.replica new.replica at.sink new.sink was.answered step
    (omega (arith, test, total)) refl)

pub returns-then-answer_command-clause-party : goal.returns-then-answer_command-clause-party
returns-then-answer_command-clause-party g c = c.answer_command.ensures.step.turn.heard.party ∙ c.loop-number.invariant.answered.party_is

pub returns-clause-served : goal.returns-clause-served
returns-clause-served g c =
    let D = g.D.Disk in
    let at = c.loop-number in
    let was = at.invariant in
    let end = g.N.Naming.end in
    let images = g.N.Imaging.images in
    let begins = g.N.Serving.begins in
    let may_give = g.C.Clock.says.may_give c.args.clock.now in
    let party = c.args.pass.now.party in
    let all = was.left in
    let total = was.total in
    let test = c.loop-number-test.false in
    let last : at.number ≡ c.left_count-total.result = omega (arith, all, test) in
    let Served : ℕ → Type 0 = λ n. IsReplicaServed D.says end images begins g.N.Serving.masters g.K.Sink.says may_give party c.args.replica (record { commands = n; failed = false }) (mark_count at.marks) c.args.sink.now at.sink at.pass.list in
    subst Served last
    (replica_served D.says end images begins g.N.Serving.masters g.K.Sink.says may_give party c.args.replica c.args.sink.now at.number false at.pass at.marks at.replica at.sink was.answered
    (record { all = λ whole. omega (arith, last, total); within = omega (arith, last, total); counts = was.answered.counts; cause = λ failed. absurd cc }))

pub returns-clause-party : goal.returns-clause-party
returns-clause-party g c = c.loop-number.invariant.answered.party_is

pub returns-then-answer_command-clause-marks_party : goal.returns-then-answer_command-clause-marks_party
returns-then-answer_command-clause-marks_party g c = c.answer_command.ensures.step.turn.heard.marks_party ∙ c.loop-number.invariant.marks_party

pub returns-clause-marks_party : goal.returns-clause-marks_party
returns-clause-marks_party g c = c.loop-number.invariant.marks_party
