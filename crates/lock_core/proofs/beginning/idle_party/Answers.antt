use Rattle.std.proofs.Common.{◌≡◌, List, [], ◌∷◌, ◌++◌, length, map, reverse, sym, ap, subst, ◌∙◌, append_assoc, append-nil, arith}
use Rattle.std.proofs.lemmas.List.{nil_from_length, map-append, reverse-reverse}
use Rattle.std.specs.Vec.Iter.{into_iter_items}
use Rattle.depot_rows.specs.depot_model.declared.request.Request.{Request}
use Rattle.lock_core.specs.Parties.{AllFresh, AreTyped}
use Rattle.lock_core.specs.declared.work.Work.{Work}
use Rattle.lock_core.proofs.Turning.{request_in, fresh_push, fresh_turned, typed_push}
use Rattle.lock_core.proofs.beginning.idle_party.Goals as goal

pub loop-request-preserved : goal.loop-request-preserved
loop-request-preserved c =
    let at = c.loop-request in
    let request = c.in-Some.request in
    let work = c.fresh_work.result in
    let rest = into_iter_items c.next.new.self in
    let steps : into_iter_items at.request-iterator ≡ request ∷ rest = c.in-Some.ensures.steps.0 in
    let parts : at.yielded ++ request ∷ rest ≡ c.args.requests.items = rw (← steps) at.invariant.items in
    let P : List Work → Type 0 = AllFresh in
    record {
      items = append_assoc at.yielded (request ∷ []) rest ∙ parts;
      left =
          let was = at.invariant.left in
          let gone = c.in-Some.ensures.steps.1 in
          let short = ap length steps in
          omega arith;
      taken =
          ap (map request_in) c.in_ok-push.ensures.items
          ∙ (map-append request_in at.left.items (work ∷ []) ∙ (λ k. at.invariant.taken k ++ c.fresh_work.ensures.request k ∷ []));
      fresh = subst P (sym c.in_ok-push.ensures.items) (fresh_push at.left.items work at.invariant.fresh c.fresh_work.ensures.fresh);
      typed = typed_push at.yielded request at.invariant.typed c.fresh_work.ensures.typed;
    }

pub returns-clause-shown : goal.returns-clause-shown
returns-clause-shown c = λ order.
    let at = c.loop-request in
    let none : into_iter_items at.request-iterator ≡ [] = nil_from_length (into_iter_items at.request-iterator) (sym at.invariant.left ∙ c.in-None.ensures.steps.0) in
    let all : at.yielded ≡ c.args.requests.items = sym (append-nil at.yielded) ∙ rw (← none) at.invariant.items in
    let P : List Work → Type 0 = AllFresh in
    record {
      fresh = subst P (sym c.reverse.ensures.items) (fresh_turned at.left.items at.invariant.fresh);
      left_is =
          ap (λ (ws : List Work). map request_in (reverse ws)) c.reverse.ensures.items
          ∙ (ap (map request_in) (reverse-reverse at.left.items) ∙ (at.invariant.taken ∙ all));
      work_is = tt;
    }

pub returns-clause-typed : goal.returns-clause-typed
returns-clause-typed c =
    let at = c.loop-request in
    let none : into_iter_items at.request-iterator ≡ [] = nil_from_length (into_iter_items at.request-iterator) (sym at.invariant.left ∙ c.in-None.ensures.steps.0) in
    let all : at.yielded ≡ c.args.requests.items = sym (append-nil at.yielded) ∙ rw (← none) at.invariant.items in
    let P : List Request → Type 0 = AreTyped in
    subst P all at.invariant.typed
