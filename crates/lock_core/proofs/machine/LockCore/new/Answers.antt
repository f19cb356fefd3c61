use Rattle.std.proofs.Common.{◌≡◌, List, [], ◌∷◌, ◌++◌, Vec, Global, length, map, sym, ap, subst, ◌∙◌, append_assoc, append-nil, arith}
use Rattle.std.proofs.lemmas.List.{nil_from_length}
use Rattle.std.specs.Vec.Iter.{into_iter_items}
use Rattle.depot_rows.specs.depot_model.declared.request.Request.{Request}
use Rattle.lock_machine.specs.Machine as model
use Rattle.lock_machine.specs.Runs.{idle}
use Rattle.lock_machine.proofs.Runs.{run_begins}
use Rattle.lock_core.specs.Core.{AreShown, all_items}
use Rattle.lock_core.specs.Parties.{AllTypedIn}
use Rattle.lock_core.specs.declared.party.Party.{Party}
use Rattle.lock_core.proofs.Turned.{shown_push, idle_more}
use Rattle.lock_core.proofs.Turning.{served_in, typed_more}
use Rattle.lock_core.proofs.machine.LockCore.new.Goals as goal

pub loop-party-preserved : goal.loop-party-preserved
loop-party-preserved c =
    let at = c.loop-party in
    let taken = c.in-Some.party in
    let made = c.in_ok-idle_party.field-0 in
    let rest = into_iter_items c.next.new.self in
    let steps : into_iter_items at.party-iterator ≡ taken ∷ rest = c.in-Some.ensures.steps.0 in
    let parts : at.yielded ++ taken ∷ rest ≡ c.args.requests.items = rw (← steps) at.invariant.items in
    let P : List Party → Type 0 = λ ps. AreShown [] ps (map idle (all_items (at.yielded ++ taken ∷ []))) in
    let Q : List model.Party → Type 0 = AreShown [] (at.parties.items ++ made ∷ []) in
    record {
      items = append_assoc at.yielded (taken ∷ []) rest ∙ parts;
      left =
          let was = at.invariant.left in
          let gone = c.in-Some.ensures.steps.1 in
          let short = ap length steps in
          omega arith;
      shown =
          subst P (sym c.in_ok-push.ensures.items)
          (subst Q (sym (idle_more at.yielded taken)) (shown_push [] at.parties.items (map idle (all_items at.yielded)) made (idle taken.items) at.invariant.shown (c.in_ok-idle_party.ensures.shown [])));
      typed = typed_more at.yielded taken at.invariant.typed c.in_ok-idle_party.ensures.typed;
    }

pub returns-clause-shows : goal.returns-clause-shows
returns-clause-shows c = λ start stand proper.
    let at = c.loop-party in
    let none : into_iter_items at.party-iterator ≡ [] = nil_from_length (into_iter_items at.party-iterator) (sym at.invariant.left ∙ c.in-None.ensures.steps.0) in
    let all : at.yielded ≡ c.args.requests.items = sym (append-nil at.yielded) ∙ rw (← none) at.invariant.items in
    let P : List (Vec Request Global) → Type 0 = λ vs. AreShown [] at.parties.items (map idle (all_items vs)) in
    let T : List (Vec Request Global) → Type 0 = λ vs. AllTypedIn (all_items vs) in
    record {
      run = run_begins start (all_items c.args.requests.items) stand.sound (served_in (all_items c.args.requests.items) proper (subst T all at.invariant.typed));
      stand = stand;
      parties = subst P all at.invariant.shown;
    }
