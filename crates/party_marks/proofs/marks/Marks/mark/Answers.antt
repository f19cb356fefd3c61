use Rattle.std.proofs.Common.{rules, ◌≡◌, ◌+◌, ◌||◌, Bool, true, [], ◌∷◌, ◌++◌, All, length, refl, sym, ap, subst, ◌∙◌, arith}
use Rattle.std.proofs.lemmas.Bool.{eq-eqb}
use Rattle.std.proofs.lemmas.List.Elements.{All-push}
use Rattle.order_words.specs.Lanes.{has_lane, is_among, last_touch}
use Rattle.order_words.specs.Seats.{LaneState, OrderState}
use Rattle.order_words.proofs.Touches.{only_lane}
use Rattle.party_marks.specs.Known.{PassKnown}
use Rattle.party_marks.specs.Marks.{IsMarkOf, lanes_of, mark_lane, mark_of, marks_of}
use Rattle.party_marks.specs.declared.mark.Mark.{Mark}
use Rattle.party_marks.proofs.Kept.{marks_kept, marks_more, touches_own}
use Rattle.party_marks.proofs.marks.Marks.mark.Goals as goal

pub append-requires-clause-checked : goal.append-requires-clause-checked
append-requires-clause-checked g c = λ lane has.
    let party = c.pass.inside.party in
    let seat = c.pass.inside.seat in
    let only : lane ≡ mark_lane party = only_lane (mark_lane party) lane (subst (λ (m : Mark). has_lane m.lanes lane ≡ true) c.of.ensures has) in
    ap (λ (o : OrderState Mark). is_among lane o.checked) c.announce_next.ensures.order
    ∙ ap (λ (b : Bool). b || is_among lane c.self.inside.seat.checked) (eq-eqb lane seat.lane (only ∙ sym c.pass.invariant.0.lane))

pub settle-requires-clause-placed : goal.settle-requires-clause-placed
settle-requires-clause-placed g c =
    let party = c.pass.inside.party in
    let announced = c.announce_next.new.lane in
    let word : announced.word ≡ length c.self.inside.seat.list + 1 = search rules in
    let list : c.announce_next.new.order.list ≡ c.self.inside.seat.list = search rules in
    let lane : announced.lane ≡ mark_lane party = ap (λ (s : LaneState Mark). s.lane) c.announce_next.ensures.lane ∙ c.pass.invariant.0.lane in
    let has : has_lane c.of.result.lanes announced.lane ≡ true = (λ i. has_lane (c.of.ensures i).lanes (lane i)) ∙ touches_own party in
    let touched : last_touch lanes_of announced.lane c.append.new.seat.list ≡ c.append.result = c.append.ensures.touched announced.lane has in
    omega (arith, c.append.ensures.place, ap length list)

pub invariant_of-self : goal.invariant_of-self
invariant_of-self g c =
    let words = g.N.Marking.marks in
    let party = c.pass.inside.party in
    let order = c.self.inside.seat.list in
    let list : c.settle.new.order.list ≡ order ++ mark_of party ∷ [] = search rules in
    let one : IsMarkOf words (mark_of party) = record { party = c.pass.invariant.1; lanes = refl } in (
      search rules,
      subst (All (IsMarkOf words)) (sym list) (All-push (IsMarkOf words) order (mark_of party) c.self.invariant.1 one),
    )

pub returns-clause-own : goal.returns-clause-own
returns-clause-own g c =
    let words = g.N.Marking.marks in
    let party = c.pass.inside.party in
    let seat = c.pass.inside.seat in
    let order = c.self.inside.seat.list in
    let after = c.settle.new.order.list in
    let list : after ≡ order ++ mark_of party ∷ [] = search rules in
    let kept = marks_kept words party seat c.pass.invariant.0 order c.announce_next.ensures.last c.self.invariant.1 c.announce_next.ensures.begins in
    let inner : marks_of party after ≡ marks_of party seat.list ++ mark_of party ∷ [] = ap (marks_of party) list ∙ marks_more party seat.list order kept in
    subst (λ (p : PassKnown). marks_of p.party after ≡ marks_of p.party p.list ++ mark_of p.party ∷ []) c.pass.view_is inner
