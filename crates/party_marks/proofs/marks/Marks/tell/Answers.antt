use Rattle.std.proofs.Common.{◌≡◌, not, sym, ap, subst, ◌∙◌}
use Rattle.order_words.specs.Seats.{LaneState}
use Rattle.party_marks.specs.Known.{MarksKnown, PassKnown}
use Rattle.party_marks.specs.Marks.{has_marks, is_empty, marks_of}
use Rattle.party_marks.specs.declared.mark.Mark.{Mark}
use Rattle.party_marks.proofs.Kept.{marks_kept, seat_learnt}
use Rattle.party_marks.proofs.marks.Marks.tell.Goals as goal

pub invariant_of-pass : goal.invariant_of-pass
invariant_of-pass g c =
    let words = g.N.Marking.marks in
    let party = c.pass.inside.party in
    let seat = c.pass.inside.seat in
    let order = c.self.inside.seat.list in
    let is = c.pass.invariant.0 in
    let kept : marks_of party order ≡ marks_of party seat.list = marks_kept words party seat is order c.learn.ensures.last c.self.invariant.1 c.learn.ensures.begins in (
      seat_learnt words party seat is order c.learn.ensures.last c.learn.new.lane c.learn.ensures.lane,
      c.pass.invariant.1,
      c.pass.invariant.2 ∙ sym (ap (λ (s : LaneState Mark). has_marks party s.list) c.learn.ensures.lane ∙ ap (λ l. not (is_empty l)) kept),
    )

pub returns-clause-own : goal.returns-clause-own
returns-clause-own g c =
    let words = g.N.Marking.marks in
    let party = c.pass.inside.party in
    let seat = c.pass.inside.seat in
    let order = c.self.inside.seat.list in
    let inner : marks_of party order ≡ marks_of party seat.list = marks_kept words party seat c.pass.invariant.0 order c.learn.ensures.last c.self.invariant.1 c.learn.ensures.begins in
    subst (λ (p : PassKnown). marks_of p.party c.args.self.now.list ≡ marks_of p.party p.list) c.pass.view_is (subst (λ (m : MarksKnown). marks_of party m.list ≡ marks_of party seat.list) c.self.view_is inner)
