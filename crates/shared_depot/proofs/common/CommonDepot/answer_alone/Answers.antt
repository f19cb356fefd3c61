use Rattle.shared_depot.proofs.Turns.{answered_so, kept_so, never_lost}
use Rattle.shared_depot.proofs.common.CommonDepot.answer_alone.Goals as goal

pub returns : goal.returns
returns g c =
    let D = g.D.Disk in
    let request = c.args.request.now in
    let replica = c.args.replica.now in
    let answer = c.answer_alone-answer.result in
    record {
      answer = λ marks.
          c.tell_alone.ensures.told request replica answer marks
          (record {
            answered = λ depot formed. answered_so D.says depot replica replica request answer (c.answer_alone-answer.ensures.answered depot formed) (kept_so answer replica.replica);
            kept = never_lost answer c.answer_alone-answer.ensures.kept;
          });
    }
