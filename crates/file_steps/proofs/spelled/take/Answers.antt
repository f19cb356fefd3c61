use Rattle.std.proofs.Common.{◌≡◌, ◌∷◌, ◌++◌, ℕ, List, ap, sym, length, arith, ◌∙◌}
use Rattle.std.specs.Vec.Iter.{into_iter_items}
use Rattle.depot_rows.specs.depot_model.Arguments.{is_in}
use Rattle.file_steps.proofs.Inserting.{taken_on}
use Rattle.file_steps.proofs.spelled.take.Goals as goal

pub loop-path-preserved : goal.loop-path-preserved
loop-path-preserved c =
    let at = c.loop-path in
    let steps : into_iter_items at.path-iterator ≡ c.in-Some.path ∷ into_iter_items c.next.new.self = c.in-Some.ensures.steps.0 in
    record {
      goes = λ path.
          taken_on path c.in-Some.path at.taken (into_iter_items c.next.new.self) c.insert.new.self c.in_ok-insert.ensures.ok
          ∙ ap (λ (x : List (List ℕ)). is_in (at.taken ++ x) path) (sym steps) ∙ at.invariant.goes path;
      left = let was = at.invariant.left in let gone = c.in-Some.ensures.steps.1 in let short = ap length steps in omega arith;
    }
