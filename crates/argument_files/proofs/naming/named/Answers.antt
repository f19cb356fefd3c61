use Rattle.std.proofs.Common.{ℕ, true, false, List, [], ◌∷◌, ◌++◌, sym, ap, ◌∙◌}
use Rattle.depot_rows.specs.depot_model.Arguments.{names}
use Rattle.argument_files.proofs.Among.{found_on}
use Rattle.argument_files.proofs.naming.named.Goals as goal
use Rattle.argument_files.proofs.naming.named.Goals.{then-branch+in_ok-own+in_ok-push, else-branch}

pub loop-path-preserved : goal.loop-path-preserved
loop-path-preserved c = λ d reads asked.
    let at = c.loop-path in
    let test = names c.args.mapped_only d c.args.caller.now c.args.argument.now.spec in
    let is = c.in_ok-is_named.ensures d reads asked in
    let on = found_on test c.args.files.now at.found c.if-branch.found at.path-index c.path-item.result _ in
    elim c.if-branch.branch [
      | then-branch+in_ok-own+in_ok-push w ↦ on true c.loop-path-test.true c.path-item.is (sym w.if-branch.true ∙ is) (w.found-is ∙ (w.in_ok-push.ensures.ok ∙ ap (λ (p : List ℕ). at.found ++ p ∷ []) w.in_ok-own.ensures)) (at.invariant d reads asked)
      | else-branch w ↦ on false c.loop-path-test.true c.path-item.is (sym w.if-branch.false ∙ is) w.found-is (at.invariant d reads asked)
    ]
