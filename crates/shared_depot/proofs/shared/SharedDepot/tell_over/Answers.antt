use Rattle.std.proofs.Common.{◌∙◌}
use Rattle.shared_depot.proofs.Told.{IfTold_then}
use Rattle.shared_depot.proofs.shared.SharedDepot.tell_over.Goals.{in-None-2, in-Some}
use Rattle.shared_depot.proofs.shared.SharedDepot.tell_over.Goals as goal

pub returns-in-None-clause-over : goal.returns-in-None-clause-over
returns-in-None-clause-over g c = record {
  reply = λ request order number at since start begun rows from d stand is kept. c.in_ok-told-in-None.ensures.reply rows from d request number (is d stand);
  ends = λ used held. absurd (rw c.in-None.is at held);
}

pub returns-clause-over : goal.returns-clause-over
returns-clause-over g c = IfTold_then c.in_ok-reading.reading c.in_ok-reading.ensures.over (λ told is. record {
  reply = λ request order number at. rw (at ∙ is.0) (is.1 request number);
  ends = λ used held. elim c.match-archive.branch [
    | in-None-2 w ↦ absurd (rw w.in-None-2.is at held)
    | in-Some w ↦ rw (is.0, c.deref_mut.ensures.value, w.guard-is) (rw w.in-Some.is at held)
  ];
})
