use Rattle.std.proofs.Common.{◌≡◌, ◌∷◌, ◌++◌, [], Option, Result, refl, sym, subst}
use Rattle.std.specs.Prelude.{IfSome}
use Rattle.std.specs.declared.alloc.AllocError.{AllocError}
use Rattle.depot_rows.specs.depot_model.declared.request.Request.{Request}
use Rattle.locked_tables.specs.Known.{PartyKnown}
use Rattle.party_marks.specs.Known.{PassKnown}
use Rattle.replica_turns.specs.declared.party.Answered.{Answered}
use Rattle.replica_turns.specs.declared.party.ReplicaParty.{ReplicaParty}
use Rattle.shared_depot.proofs.Turns.{turn_so}
use Rattle.shared_depot.specs.Replicas.{IsReplicaTurn}
use Rattle.shared_depot.proofs.shared.SharedDepot.answer_replica.Goals.{then-is_print, else-is_print+then-is_pull, else-is_print+else-is_pull}
use Rattle.shared_depot.proofs.shared.SharedDepot.answer_replica.Goals as goal

-- the same turn, by what it left
module _ (Turn : PartyKnown → PassKnown → ReplicaParty → Result Answered AllocError → Type 0) (pass pass' : PartyKnown) (marks marks' : PassKnown) (replica replica' : ReplicaParty) (answer answer' : Result Answered AllocError) where
  turn_as : pass ≡ pass' → marks ≡ marks' → replica ≡ replica' → answer ≡ answer' → Turn pass' marks' replica' answer' → Turn pass marks replica answer
  turn_as pass-is marks-is replica-is answer-is turn =
      subst (λ (x : PartyKnown). Turn x marks replica answer) (sym pass-is)
      (subst (λ (x : PassKnown). Turn pass' x replica answer) (sym marks-is)
      (subst (λ (x : ReplicaParty). Turn pass' marks' x answer) (sym replica-is)
      (subst (λ (x : Result Answered AllocError). Turn pass' marks' replica' x) (sym answer-is) turn)))

pub returns-clause-turn : goal.returns-clause-turn
returns-clause-turn g c =
    let D = g.D.Disk in
    let end = g.N.Naming.end in
    let images = g.N.Imaging.images in
    let begins = g.N.Serving.begins in
    let old = c.args.pass.now in
    let old_marks = c.args.marks.now in
    let before = c.args.replica.now in
    let mid = c.take_next.new.self in
    let request = c.unwrap-request.result in
    let taken : before.left.items ≡ mid.left.items ++ request ∷ [] =
    subst (λ (o : Option Request). IfSome o (λ r. before.left.items ≡ mid.left.items ++ r ∷ [])) c.unwrap-request.ensures c.take_next.ensures.left in
    let Turn : PartyKnown → PassKnown → ReplicaParty → Result Answered AllocError → Type 0 = λ pass marks replica answer.
    IsReplicaTurn D.says end images begins g.N.Serving.masters old pass old_marks marks before replica answer in
    elim c.if-is_print.branch [
      | then-is_print w ↦
          let new = w.answer_print-answer.new in
          turn_as Turn c.if-is_print.pass new.pass c.if-is_print.marks new.marks c.if-is_print.replica mid c.if-is_print.answer w.answer_print-answer.result w.pass-is w.marks-is w.replica-is w.answer-is
          (turn_so before mid mid request taken refl D.says end images begins g.N.Serving.masters old new.pass old_marks new.marks c.take_next.ensures.same w.answer_print-answer.result w.answer_print-answer.ensures.answer)
      | else-is_print+then-is_pull w ↦
          let new = w.answer_pull.new in
          turn_as Turn c.if-is_print.pass new.pass c.if-is_print.marks new.marks c.if-is_print.replica new.replica c.if-is_print.answer w.answer_pull.result w.pass-is w.marks-is w.replica-is w.answer-is
          (turn_so before mid new.replica request taken w.answer_pull.ensures.left D.says end images begins g.N.Serving.masters old new.pass old_marks new.marks c.take_next.ensures.same w.answer_pull.result w.answer_pull.ensures.answer)
      | else-is_print+else-is_pull w ↦
          let new = w.answer_alone.new in
          turn_as Turn c.if-is_print.pass new.pass c.if-is_print.marks old_marks c.if-is_print.replica mid c.if-is_print.answer w.answer_alone.result w.pass-is w.marks-is w.replica-is w.answer-is
          (turn_so before mid mid request taken refl D.says end images begins g.N.Serving.masters old new.pass old_marks old_marks c.take_next.ensures.same w.answer_alone.result (w.answer_alone.ensures.answer old_marks))
    ]
