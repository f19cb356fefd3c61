use Rattle.std.proofs.Common.{◌≡◌, ◌∷◌, [], ℕ, List, length, refl, sym, ap, ◌∙◌, arith}
use Rattle.std.specs.Vec.Iter.{into_iter_items}
use Rattle.history_query.specs.Directories.{taken_after}
use Rattle.history_query.proofs.dir_rows.take.Goals as goal

nothing_left : (texts : List (List ℕ)) → length texts ≡ 0 → texts ≡ []
nothing_left [] h = refl
nothing_left (text ∷ texts) h = absurd (omega arith)

pub loop-directory-preserved : goal.loop-directory-preserved
loop-directory-preserved c =
    let at = c.loop-directory in
    let later : List (List ℕ) = into_iter_items c.next.new.self in
    let steps : into_iter_items at.directory-iterator ≡ c.in-Some.directory ∷ into_iter_items c.next.new.self = c.in-Some.ensures.steps.0 in
    let short = ap length steps in
    record {
      takes = ap (λ (taken : List (List ℕ)). taken_after taken later) c.in_ok-insert.ensures
          ∙ (ap (λ (texts : List (List ℕ)). taken_after at.taken texts) (sym steps) ∙ at.invariant.takes);
      left = let was = at.invariant.left in let gone = c.in-Some.ensures.steps.1 in omega arith;
    }

pub returns : goal.returns
returns c =
    let at = c.loop-directory in
    let none : into_iter_items at.directory-iterator ≡ [] = nothing_left _ (sym at.invariant.left ∙ c.in-None.ensures.steps.0) in
    ap (λ (texts : List (List ℕ)). taken_after at.taken texts) (sym none) ∙ at.invariant.takes
