use Rattle.std.proofs.Common.{◌≡◌, true, false, refl, sym, ◌∙◌, arith, inl}
use Rattle.session_loop.proofs.Faults.{caused_more, caused_same}
use Rattle.session_turns.proofs.Drawing.{chosen_going, chosen_none, none_left}
use Rattle.session_turns.proofs.Losing.{lost_more, untold_more, untold_same}
use Rattle.session_turns.proofs.Rounds.{all_done, drawn_is, none_so_far, one_more}
use Rattle.session_turns.proofs.Within.{within_then}
use Rattle.session_turns.specs.Drawn.{going}
use Rattle.session_turns.proofs.turns.Turns.take_all.Goals as goal

pub turns-init : goal.turns-init
turns-init g c = record {
  can = c.requires.can;
  so_far = λ scene p r few bound. none_so_far _ _ _ scene c.args.seed p c.args.self.now c.new-draw.result 18446744073709551615 (sym c.new-draw.ensures) r (omega (arith, bound));
  within = (refl, λ before h. h);
  faults = (let order = c.args.self.now.order.items in caused_same _ _ _ _ order order refl (omega arith) (omega arith));
  told = untold_same _ _ _ c.args.self.now.order.items;
  lost = λ is. inl is;
}

pub turns-preserved : goal.turns-preserved
turns-preserved g c =
    let at = c.turns in
    let next = c.advance.ensures in
    record {
      can = next.can;
      so_far = λ scene p r few bound.
          let was = at.invariant.so_far scene p r few bound in
          let drawn = drawn_is _ _ _ scene c.args.seed p c.args.self.now at.self at.draw at.turns was few c.drawn.result _ c.next.result c.drawn.ensures c.deref.ensures.value c.next.ensures.value in
          let chose = sym c.in-Some.is ∙ drawn in
          let takes = next.turn scene was.progress was.going (chosen_going was.progress _ c.in-Some.party (sym chose)) in
          one_more _ _ _ scene c.args.seed p c.args.self.now at.self at.draw at.turns was _ _ c.next.new.self c.in-Some.party c.next.ensures.number chose (let more = c.turns-test.true in omega (arith, more)) takes.1;
      within = within_then g.K.Sink.says c.args.self.now at.self c.advance.new.self at.invariant.within next.within;
      faults = caused_more _ _ _ _ _ _ c.args.self.now.order.items at.self.order.items c.advance.new.self.order.items at.invariant.faults next.faults;
      told = untold_more _ _ _ _ _ _ _ _ _ c.args.self.now.order.items at.self.order.items c.advance.new.self.order.items at.invariant.faults next.faults at.invariant.told next.told;
      lost = lost_more _ _ _ _ _ _ _ _ _ c.args.self.now.order.items at.self.order.items c.advance.new.self.order.items at.invariant.faults next.faults at.invariant.lost next.lost;
    }

pub turns-smaller : goal.turns-smaller
turns-smaller g c = let more = c.turns-test.true in omega (arith, more)

-- ---- nobody may go on

pub returns-in_default-clause-turns : goal.returns-in_default-clause-turns
returns-in_default-clause-turns g c = λ scene p r few bound.
    let at = c.turns in
    let was = at.invariant.so_far scene p r few bound in
    let drawn = drawn_is _ _ _ scene c.args.seed p c.args.self.now at.self at.draw at.turns was few c.drawn.result _ c.next.result c.drawn.ensures c.deref.ensures.value c.next.ensures.value in
    all_done _ _ _ scene c.args.seed p c.args.self.now at.self at.draw at.turns was (chosen_none (going was.progress) _ (sym drawn ∙ c.in_default.is))

pub returns-in_default-clause-within : goal.returns-in_default-clause-within
returns-in_default-clause-within g c = c.turns.invariant.within

pub returns-in_default-clause-faults : goal.returns-in_default-clause-faults
returns-in_default-clause-faults g c = c.turns.invariant.faults

pub returns-in_default-clause-told : goal.returns-in_default-clause-told
returns-in_default-clause-told g c = c.turns.invariant.told

pub returns-in_default-clause-lost : goal.returns-in_default-clause-lost
returns-in_default-clause-lost g c = c.turns.invariant.lost

-- ---- who was drawn may go on

pub returns-then-not-advance-clause-turns : goal.returns-then-not-advance-clause-turns
returns-then-not-advance-clause-turns g c = λ scene p r few bound.
    let at = c.turns in
    let was = at.invariant.so_far scene p r few bound in
    let drawn = drawn_is _ _ _ scene c.args.seed p c.args.self.now at.self at.draw at.turns was few c.drawn.result _ c.next.result c.drawn.ensures c.deref.ensures.value c.next.ensures.value in
    let takes = c.advance.ensures.turn scene was.progress was.going (chosen_going was.progress _ c.in-Some.party (sym drawn ∙ c.in-Some.is)) in
    absurd (let both : true ≡ false = sym takes.0 ∙ c.if-not-advance.true in cc)

pub returns-then-not-advance-clause-within : goal.returns-then-not-advance-clause-within
returns-then-not-advance-clause-within g c = within_then g.K.Sink.says c.args.self.now c.turns.self c.advance.new.self c.turns.invariant.within c.advance.ensures.within

pub returns-then-not-advance-clause-faults : goal.returns-then-not-advance-clause-faults
returns-then-not-advance-clause-faults g c = caused_more _ _ _ _ _ _ c.args.self.now.order.items c.turns.self.order.items c.advance.new.self.order.items c.turns.invariant.faults c.advance.ensures.faults

pub returns-then-not-advance-clause-told : goal.returns-then-not-advance-clause-told
returns-then-not-advance-clause-told g c =
    untold_more _ _ _ _ _ _ _ _ _ c.args.self.now.order.items c.turns.self.order.items c.advance.new.self.order.items c.turns.invariant.faults c.advance.ensures.faults c.turns.invariant.told c.advance.ensures.told

pub returns-then-not-advance-clause-lost : goal.returns-then-not-advance-clause-lost
returns-then-not-advance-clause-lost g c =
    lost_more _ _ _ _ _ _ _ _ _ c.args.self.now.order.items c.turns.self.order.items c.advance.new.self.order.items c.turns.invariant.faults c.advance.ensures.faults c.turns.invariant.lost c.advance.ensures.lost

-- ---- there are no more

pub returns-clause-turns : goal.returns-clause-turns
returns-clause-turns g c = λ scene p r few bound.
    let at = c.turns in
    let was = at.invariant.so_far scene p r few bound in
    all_done _ _ _ scene c.args.seed p c.args.self.now at.self at.draw at.turns was (none_left was.progress (let most = was.fuel_is in let past = c.turns-test.false in omega (arith, most, past)))

pub returns-clause-within : goal.returns-clause-within
returns-clause-within g c = c.turns.invariant.within

pub returns-clause-faults : goal.returns-clause-faults
returns-clause-faults g c = c.turns.invariant.faults

pub returns-clause-told : goal.returns-clause-told
returns-clause-told g c = c.turns.invariant.told

pub returns-clause-lost : goal.returns-clause-lost
returns-clause-lost g c = c.turns.invariant.lost
