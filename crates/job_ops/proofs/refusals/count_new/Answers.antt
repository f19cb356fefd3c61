use Rattle.std.proofs.Common.{◌+◌, ℕ, Bool, List, length, take, sym, ap, ◌∙◌, arith}
use Rattle.std.specs.Prelude.{filter, not}
use Rattle.depot_rows.specs.depot_model.Fixes.{has_fix}
use Rattle.job_ops.proofs.ChangeRows.{no_more, one_more}
use Rattle.job_fixes.proofs.Steps.{front}
use Rattle.job_ops.proofs.refusals.count_new.Goals as goal
use Rattle.job_ops.proofs.refusals.count_new.Goals.{then-not-fixed, else-not-fixed}

pub loop-name-preserved : goal.loop-name-preserved
loop-name-preserved c = record {
  within = elim c.if-not-fixed.branch [ then-not-fixed w ↦ omega (arith, c.loop-name.invariant.within, w.count-is) | else-not-fixed w ↦ omega (arith, c.loop-name.invariant.within, w.count-is) ];
  counted = λ d sound has.
      let names = c.args.names.now in
      let i = c.loop-name.name-index in
      let name = c.name-item.result in
      let n = c.args.change in
      let test : List ℕ → Bool = λ x. not (has_fix d n x) in
      let is = sym (c.in_ok-fixed.ensures d sound has ∙ ap (has_fix d n) c.as_bytes.ensures) in
      let was = c.loop-name.invariant.counted d sound has in
      let all = ap (λ (l : List (List ℕ)). length (filter test l)) (sym (front names i name c.loop-name-test.true c.name-item.is)) in
      elim c.if-not-fixed.branch [
        | then-not-fixed w ↦ w.count-is ∙ ap (λ (k : ℕ). k + 1) was ∙ sym (one_more test (take i names) name (ap not (is ∙ w.if-not-fixed.true))) ∙ all
        | else-not-fixed w ↦ w.count-is ∙ was ∙ sym (no_more test (take i names) name (ap not (is ∙ w.if-not-fixed.false))) ∙ all
      ];
}
