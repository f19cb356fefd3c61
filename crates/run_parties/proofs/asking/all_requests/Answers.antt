use Rattle.std.proofs.Common.{◌≡◌, ◌+◌, List, [], ◌∷◌, ◌++◌, Option, length, map, sym, ap, subst, ◌∙◌, append_assoc, append-nil, arith, Vec, Global}
use Rattle.std.specs.Vec.Iter.{into_iter_items}
use Rattle.std.proofs.lemmas.List.{length_push, map_push, nil_from_length}
use Rattle.depot_model.specs.declared.request.Request.{Request}
use Rattle.depot_model.specs.declared.request.Session.{Session}
use Rattle.run_parties.proofs.Making.{all_push}
use Rattle.session_loop.specs.Requests.{AreRequestsOfAll}
use Rattle.run_parties.proofs.asking.all_requests.Goals as goal

pub loop-session-preserved : goal.loop-session-preserved
loop-session-preserved g c =
    let at = c.loop-session in
    let session = c.in-Some.session in
    let own = c.in_ok-own.own in
    let rest = into_iter_items c.next.new.self in
    let steps : into_iter_items at.session-iterator ≡ session ∷ rest = c.in-Some.ensures.steps.0 in
    let parts : at.yielded ++ session ∷ rest ≡ c.args.sessions.items = rw (← steps) at.invariant.items in
    let may_give = g.C.Clock.says.may_give c.args.clock.now in
    let items : Vec Request Global → List Request = λ (v : Vec Request Global). v.items in
    let Made : List (Vec Request Global) → Type 0 = λ vs. AreRequestsOfAll may_give 1 (at.yielded ++ session ∷ []) (map items vs) in
    let Pushed : List (List Request) → Type 0 = AreRequestsOfAll may_give 1 (at.yielded ++ session ∷ []) in
    let count = at.invariant.count in
    record {
      made = subst Made (sym c.in_ok-push.ensures.items) (subst Pushed (sym (map_push items at.requests.items own))
          (all_push may_give 1 (at.party + 1) at.yielded (map items at.requests.items) session own.items (omega (arith, count)) at.invariant.made c.in_ok-own.ensures));
      items = append_assoc at.yielded (session ∷ []) rest ∙ parts;
      left =
          let was = at.invariant.left in
          let gone = c.in-Some.ensures.steps.1 in
          let short = ap length steps in
          omega arith;
      count = let longer = length_push at.yielded session in omega (arith, longer, count);
    }

pub returns : goal.returns
returns g c =
    let at = c.loop-session in
    let none : into_iter_items at.session-iterator ≡ [] = nil_from_length (into_iter_items at.session-iterator) (sym at.invariant.left ∙ c.in-None.ensures.steps.0) in
    let all : at.yielded ≡ c.args.sessions.items = sym (append-nil at.yielded) ∙ rw (← none) at.invariant.items in
    let items : Vec Request Global → List Request = λ (v : Vec Request Global). v.items in
    let Made : List (Option Session) → Type 0 = λ sessions. AreRequestsOfAll (g.C.Clock.says.may_give c.args.clock.now) 1 sessions (map items at.requests.items) in
    subst Made all at.invariant.made
