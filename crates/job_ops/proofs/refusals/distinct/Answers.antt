use Rattle.std.proofs.Common.{◌≡◌, ◌+◌, ◌++◌, ◌∷◌, ℕ, List, [], drop, sym, ap, ◌∙◌}
use Rattle.std.specs.List.{list_any}
use Rattle.depot_rows.specs.depot_path.Bytes.{same}
use Rattle.depot_rows.specs.depot_model.Steps.Jobs.{distinct_after}
use Rattle.job_ops.proofs.Distinct.{again, anew}
use Rattle.job_fixes.proofs.Steps.{back}
use Rattle.job_ops.proofs.refusals.distinct.Goals as goal
use Rattle.job_ops.proofs.refusals.distinct.Goals.{then-not-is_among+in_ok-from_bytes+in_ok-push, else-not-is_among}

pub loop-name-preserved : goal.loop-name-preserved
loop-name-preserved c =
    let names = c.args.names.now in
    let i = c.loop-name.name-index in
    let name = c.name-item.result in
    let rest = drop (i + 1) names in
    let before = c.loop-name.kept in
    let kept = λ (l : List (List ℕ)). l ++ distinct_after l rest in
    let taken : list_any (same name) before ≡ c.is_among.result =
    (λ k. list_any (same (sym c.as_bytes-bytes.ensures k)) (sym c.as_slice.ensures k)) ∙ sym c.is_among.ensures in
    let last = ap (λ (l : List (List ℕ)). before ++ distinct_after before l) (sym (back names i name c.loop-name-test.true c.name-item.is)) ∙ c.loop-name.invariant in
    elim c.if-not-is_among.branch [
      | then-not-is_among+in_ok-from_bytes+in_ok-push w ↦
          ap kept (w.kept-is ∙ w.in_ok-push.ensures.ok ∙ ap (λ (n : List ℕ). before ++ n ∷ []) (w.in_ok-from_bytes.ensures ∙ c.as_bytes-bytes.ensures))
          ∙ anew before name rest (taken ∙ w.if-not-is_among.true) ∙ last
      | else-not-is_among w ↦ ap kept w.kept-is ∙ again before name rest (taken ∙ w.if-not-is_among.false) ∙ last
    ]
