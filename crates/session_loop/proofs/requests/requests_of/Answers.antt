use Rattle.std.proofs.Common.{◌≡◌, ◌+◌, ◌∷◌, [], ◌++◌, List, length, sym, ap, subst, ◌∙◌, append_assoc, append-nil, arith}
use Rattle.std.specs.Vec.Iter.{into_iter_items}
use Rattle.std.proofs.lemmas.List.{length_push, nil_from_length}
use Rattle.depot_model.specs.declared.request.Asked.{Asked}
use Rattle.depot_model.specs.declared.request.Request.{Request}
use Rattle.session_loop.specs.Requests.{AreRequests}
use Rattle.session_loop.proofs.Making.{requests_push}
use Rattle.session_loop.proofs.requests.requests_of.Goals as goal

pub loop-asked-preserved : goal.loop-asked-preserved
loop-asked-preserved g c =
    let at = c.loop-asked in
    let asked = c.in-Some.asked in
    let request = c.in_ok-request.request in
    let rest = into_iter_items c.next.new.self in
    let steps : into_iter_items at.asked-iterator ≡ asked ∷ rest = c.in-Some.ensures.steps.0 in
    let parts : at.yielded ++ asked ∷ rest ≡ c.args.session.commands = rw (← steps) at.invariant.items in
    let may_give = g.C.Clock.says.may_give c.args.clock.now in
    let caller = c.args.session.caller in
    let Made : List Request → Type 0 = AreRequests may_give c.args.party 1 caller (at.yielded ++ asked ∷ []) in
    let count = at.invariant.count in
    record {
      made = subst Made (sym c.in_ok-push.ensures.items) (requests_push may_give c.args.party 1 (at.number + 1) caller at.yielded at.requests.items asked request (omega (arith, count)) at.invariant.made c.in_ok-request.ensures);
      items = append_assoc at.yielded (asked ∷ []) rest ∙ parts;
      left =
          let was = at.invariant.left in
          let gone = c.in-Some.ensures.steps.1 in
          let short = ap length steps in
          omega arith;
      count = let longer = length_push at.yielded asked in omega (arith, longer, count);
    }

pub returns : goal.returns
returns g c =
    let at = c.loop-asked in
    let none : into_iter_items at.asked-iterator ≡ [] = nil_from_length (into_iter_items at.asked-iterator) (sym at.invariant.left ∙ c.in-None.ensures.steps.0) in
    let all : at.yielded ≡ c.args.session.commands = sym (append-nil at.yielded) ∙ rw (← none) at.invariant.items in
    let Made : List Asked → Type 0 = λ commands. AreRequests (g.C.Clock.says.may_give c.args.clock.now) c.args.party 1 c.args.session.caller commands at.requests.items in
    subst Made all at.invariant.made
