use Rattle.std.proofs.Common.{◌≡◌, ◌∷◌, [], ◌++◌, List, length, sym, ap, ◌∙◌, append_assoc, append-nil, arith}
use Rattle.std.specs.Prelude.{map}
use Rattle.std.specs.Arc.{arc_value}
use Rattle.std.specs.Vec.Iter.{into_iter_items}
use Rattle.std.proofs.lemmas.List.{length_push, nil_from_length}
use Rattle.depot_model.specs.declared.request.Asked.{Asked}
use Rattle.session_loop.specs.Passing.{asked_in}
use Rattle.session_loop.specs.declared.reading.PlacedItem.{PlacedItem}
use Rattle.session_loop.proofs.reading.asked_by_entries.Goals as goal

pub loop-placed-preserved : goal.loop-placed-preserved
loop-placed-preserved c =
    let at = c.loop-placed in
    let asks = asked_in (arc_value c.in_ok-script.script).files in
    let placed = c.in-Some.placed in
    let left = into_iter_items c.next.new.self in
    let steps : into_iter_items at.placed-iterator ≡ placed ∷ left = c.in-Some.ensures.steps.0 in
    let short = ap length steps in
    let pushed = c.in_ok-push.ensures.ok in
    let longer = ap length pushed ∙ length_push at.commands _ in
    record {
      goes = ap (λ (cs : List Asked). cs ++ map asks left) (pushed ∙ ap (λ (x : Asked). at.commands ++ x ∷ []) c.in_ok-asked.ensures)
          ∙ (append_assoc at.commands (asks placed ∷ []) (map asks left)
          ∙ (ap (λ (ps : List PlacedItem). at.commands ++ map asks ps) (sym steps) ∙ at.invariant.goes));
      few = let was = at.invariant.few in omega arith;
      left = let was = at.invariant.left in let gone = c.in-Some.ensures.steps.1 in omega arith;
    }

pub returns-clause-value : goal.returns-clause-value
returns-clause-value c =
    let at = c.loop-placed in
    let none : into_iter_items at.placed-iterator ≡ [] = nil_from_length _ (sym at.invariant.left ∙ c.in-None.ensures.steps.0) in
    sym (append-nil at.commands) ∙ (ap (λ (ps : List PlacedItem). at.commands ++ map (asked_in (arc_value c.in_ok-script.script).files) ps) (sym none) ∙ at.invariant.goes)

pub returns-clause-few : goal.returns-clause-few
returns-clause-few c = let few = c.loop-placed.invariant.few in omega arith
