use Rattle.std.proofs.Common.{◌≡◌, ◌∷◌, [], length, sym, ap, ◌∙◌, append-nil, arith}
use Rattle.std.specs.Prelude.{map}
use Rattle.std.specs.Vec.Iter.{into_iter_items}
use Rattle.std.proofs.lemmas.List.{nil_from_length}
use Rattle.session_loop.specs.Passing.{all_asked, asked_in}
use Rattle.session_loop.proofs.reading.passed.Goals as goal

pub loop-entry-preserved : goal.loop-entry-preserved
loop-entry-preserved c =
    let at = c.loop-entry in
    let steps : into_iter_items at.entry-iterator ≡ c.in-Some.entry ∷ into_iter_items c.next.new.self = c.in-Some.ensures.steps.0 in
    let short = ap length steps in
    record {
      behind = c.in_ok-follow.ensures.behind;
      goes = sym (c.in_ok-follow.ensures.goes (into_iter_items c.next.new.self)) ∙ (ap (all_asked at.script at.items) (sym steps) ∙ at.invariant.goes);
      few = let more = c.in_ok-follow.ensures.few in let was = at.invariant.few in omega arith;
      left = let was = at.invariant.left in let gone = c.in-Some.ensures.steps.1 in omega arith;
    }

pub returns-clause-value : goal.returns-clause-value
returns-clause-value c =
    let at = c.loop-entry in
    let none : into_iter_items at.entry-iterator ≡ [] = nil_from_length _ (sym at.invariant.left ∙ c.in-None.ensures.steps.0) in
    sym (append-nil (map (asked_in at.script.files) at.items)) ∙ (ap (all_asked at.script at.items) (sym none) ∙ at.invariant.goes)

pub returns-clause-few : goal.returns-clause-few
returns-clause-few c = let few = c.loop-entry.invariant.few in omega arith
