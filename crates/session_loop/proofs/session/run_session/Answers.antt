use Rattle.std.proofs.Common.{◌≡◌, ℕ, zero, suc, ◌∷◌, [], ◌++◌, List, length, Some, refl, sym, ap, subst, ◌∙◌, append_assoc, arith, rules}
use Rattle.std.specs.Prelude.{slice_get}
use Rattle.std.specs.Vec.Iter.{into_iter_items}
use Rattle.std.specs.List.{AllByRecursion}
use Rattle.std.proofs.lemmas.List.Elements.{recursion_from_All}
use Rattle.std.proofs.lemmas.List.{length_push}
use Rattle.depot_model.specs.declared.request.Asked.{Asked}
use Rattle.session_loop.specs.Asking.{AreProper, AreWellFormed}
use Rattle.session_loop.proofs.Turns.{answered_given, served_none, served_more, served_last}
use Rattle.session_loop.proofs.Faults.{caused_none, caused_more, stand_more, stand_same}
use Rattle.session_loop.proofs.session.run_session.Goals as goal

get_next : (before : List Asked) (asked : Asked) (rest : List Asked) → slice_get (before ++ asked ∷ rest) (length before) ≡ Some asked
get_next [] asked rest = refl
get_next (first ∷ before) asked rest = get_next before asked rest

-- the next asked is that of the count
next_is : (commands before left rest : List Asked) (asked : Asked) (count : ℕ) → left ≡ asked ∷ rest → before ++ left ≡ commands → count ≡ length before
    → slice_get commands count ≡ Some asked
next_is commands before left rest asked count s e n =
    let P : List Asked → Type 0 = λ cs. slice_get cs count ≡ Some asked in
    let Q : ℕ → Type 0 = λ k. slice_get (before ++ asked ∷ rest) k ≡ Some asked in
    subst P (ap (λ (cs : List Asked). before ++ cs) (sym s) ∙ e) (subst Q (sym n) (get_next before asked rest))

-- what holds of all commands holds of the next
formed_at : (commands : List Asked) (n : ℕ) (asked : Asked) → AreWellFormed commands → slice_get commands n ≡ Some asked → AreProper asked.command asked.contents
formed_at commands n asked all is = go commands n (recursion_from_All (λ (a : Asked). AreProper a.command a.contents) commands all) is
  where
    go : (commands : List Asked) (n : ℕ) → AllByRecursion (λ (a : Asked). AreProper a.command a.contents) commands → slice_get commands n ≡ Some asked → AreProper asked.command asked.contents
    go [] n every at = absurd cc
    go (first ∷ commands) zero every at = let e : first ≡ asked = cc in let P : Asked → Type 0 = λ a. AreProper a.command a.contents in subst P e every.0
    go (first ∷ commands) (suc n) every at = go commands n every.1 at

pub loop-asked-init : goal.loop-asked-init
loop-asked-init g c = record {
  can = c.requires.can;
  served = λ sessions since start has formed ran. rw c.requires.no_places (served_none _ _ sessions start _ _ ran);
  items = search rules;
  left = search rules;
  count = refl;
  counts = omega arith;
  stand = stand_same _ _ [] c.args.order.now.items;
  faults = rw c.requires.no_places (caused_none _ _);
}

pub returns-in-Err-clause-served : goal.returns-in-Err-clause-served
returns-in-Err-clause-served g c =
    let at = c.loop-asked in
    let asked = c.in-Some.asked in
    let is = next_is c.args.session.commands at.yielded (into_iter_items at.asked-iterator) (into_iter_items c.next.new.self) asked at.count
    c.in-Some.ensures.steps.0 at.invariant.items at.invariant.count in
    λ sessions since start has formed ran.
    let before = at.invariant.served sessions since start has formed ran in
    (served_last _ _ _ sessions _ _ _ c.args.session asked _ _ _ _ _ has is before c.in-Err.field-0 (answered_given (g.C.Clock.says.may_give c.args.clock.now) _ _ _ _ _ _ _ _ _ _ _ _ _ c.now.ensures (c.in-Err.ensures.answered since start _ before.ran.ran (formed_at _ _ _ formed is)))).0

pub returns-in-Err-clause-ran : goal.returns-in-Err-clause-ran
returns-in-Err-clause-ran g c =
    let at = c.loop-asked in
    let asked = c.in-Some.asked in
    let is = next_is c.args.session.commands at.yielded (into_iter_items at.asked-iterator) (into_iter_items c.next.new.self) asked at.count
    c.in-Some.ensures.steps.0 at.invariant.items at.invariant.count in
    λ sessions since start has formed ran.
    let before = at.invariant.served sessions since start has formed ran in
    (served_last _ _ _ sessions _ _ _ c.args.session asked _ _ _ _ _ has is before c.in-Err.field-0 (answered_given (g.C.Clock.says.may_give c.args.clock.now) _ _ _ _ _ _ _ _ _ _ _ _ _ c.now.ensures (c.in-Err.ensures.answered since start _ before.ran.ran (formed_at _ _ _ formed is)))).1

pub loop-asked-preserved : goal.loop-asked-preserved
loop-asked-preserved g c =
    let at = c.loop-asked in
    let asked = c.in-Some.asked in
    let steps : into_iter_items at.asked-iterator ≡ asked ∷ into_iter_items c.next.new.self = c.in-Some.ensures.steps.0 in
    let is = next_is c.args.session.commands at.yielded (into_iter_items at.asked-iterator) (into_iter_items c.next.new.self) asked at.count
    steps at.invariant.items at.invariant.count in
    record {
      can = c.answer.ensures.can;
      served = λ sessions since start has formed ran.
          let before = at.invariant.served sessions since start has formed ran in
          served_more _ _ _ sessions _ _ _ c.args.session asked _ _ _ _ _ has is before c.in-Ok.field-0 (answered_given (g.C.Clock.says.may_give c.args.clock.now) _ _ _ _ _ _ _ _ _ _ _ _ _ c.now.ensures (c.in-Ok.ensures.answered since start _ before.ran.ran (formed_at _ _ _ formed is)));
      items = append_assoc at.yielded (asked ∷ []) _ ∙ rw (← steps) at.invariant.items;
      left =
          let was = at.invariant.left in
          let gone = c.in-Some.ensures.steps.1 in
          let short = ap length steps in
          omega arith;
      count = let longer = length_push at.yielded asked in let was = at.invariant.count in omega (arith, longer, was);
      counts = omega (arith, c.in-Ok.ensures.cause.never_falls);
      stand = stand_more _ _ _ _ _ _ [] at.order.items c.answer.new.order.items at.invariant.faults c.answer.ensures.places at.invariant.stand c.answer.ensures.stand;
      faults = caused_more (g.T.Taker.faults c.args.taker.now) (g.T.Taker.faults at.taker) (g.T.Taker.faults c.answer.new.taker) (g.T.Taker.content_faults c.args.taker.now) (g.T.Taker.content_faults at.taker) (g.T.Taker.content_faults c.answer.new.taker) [] at.order.items c.answer.new.order.items at.invariant.faults c.answer.ensures.places;
    }

pub returns-clause-served : goal.returns-clause-served
returns-clause-served g c = λ sessions since start has formed ran.
    let h = c.loop-asked.invariant.served sessions since start has formed ran in
    record { places = h.ran.places; rising = h.ran.rising; output = h.output }

pub returns-clause-ran : goal.returns-clause-ran
returns-clause-ran g c = λ sessions since start has formed ran. (c.loop-asked.invariant.served sessions since start has formed ran).ran.ran

pub returns-in-Err-clause-faults : goal.returns-in-Err-clause-faults
returns-in-Err-clause-faults g c =
    let at = c.loop-asked in
    caused_more (g.T.Taker.faults c.args.taker.now) (g.T.Taker.faults at.taker) (g.T.Taker.faults c.answer.new.taker) (g.T.Taker.content_faults c.args.taker.now) (g.T.Taker.content_faults at.taker) (g.T.Taker.content_faults c.answer.new.taker) [] at.order.items c.answer.new.order.items at.invariant.faults c.answer.ensures.places

pub returns-in-Err-clause-stand : goal.returns-in-Err-clause-stand
returns-in-Err-clause-stand g c =
    let at = c.loop-asked in
    stand_more _ _ _ _ _ _ [] at.order.items c.answer.new.order.items at.invariant.faults c.answer.ensures.places at.invariant.stand c.answer.ensures.stand
