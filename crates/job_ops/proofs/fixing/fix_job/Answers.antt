use Rattle.std.proofs.Common.{ℕ, List, [], ◌∷◌, ◌++◌, sym, ap, subst, ◌∙◌}
use Rattle.std.specs.Prelude.{codes}
use Rattle.depot_rows.specs.table_changes.Changed.{rows_of}
use Rattle.depot_rows.specs.depot_model.Fixes.{fix_form}
use Rattle.depot_rows.specs.depot_model.Steps.Jobs.{fix_job}
use Rattle.depot_rows.specs.declared.deed.Deed.TheVariants.{Spec}
use Rattle.depot_rows.specs.declared.deed.SpecKind.TheVariants.{Fix}
use Rattle.reply_rows.specs.declared.step.Step.{Step}
use Rattle.reply_rows.specs.Made.{IsMade}
use Rattle.job_ops.proofs.Stepping.{fixed_made, where_none, where_told}
use Rattle.job_ops.proofs.fixing.fix_job.Goals as goal
use Rattle.job_ops.proofs.fixing.fix_job.Goals.{then-landed+in_ok-close, else-landed}

pub returns : goal.returns
returns c = λ d e sound has landed.
    let rows = rows_of c.args.tables.now in
    let caller = c.args.caller.now in
    let name = c.args.name.now in
    let n = c.args.change in
    let told = c.in_ok-step.ensures in
    let row = c.in_ok-row.ensures in
    let form = c.in_ok-form.ensures ∙ ap (λ (user : List ℕ). fix_form name n user (codes "on")) c.as_bytes.ensures.value in
    let deeds = c.in_ok-spec.ensures.done ∙ ap (λ (s : Step). s.deeds ++ Spec Fix c.in_ok-key.key c.in_ok-form.form ∷ []) told in
    let of_rows = ap (λ (s : Step). s.rows) told in
    let stores = ap (λ (s : Step). s.stores) told in
    let reads = ap (λ (s : Step). s.reads) told in
    elim c.if-landed.branch [
      | then-landed+in_ok-close w ↦
          subst (λ (s : Step). IsMade rows d e (fix_job d caller n name) s) (sym w.step-is)
          (fixed_made rows d e caller n name c.args.landed _ _ _ _ _ landed row form c.in_ok-key.ensures deeds
          (where_told d c.args.landed name _ _ w.if-landed.true (w.in_ok-close.ensures d sound has)) of_rows stores reads)
      | else-landed w ↦
          subst (λ (s : Step). IsMade rows d e (fix_job d caller n name) s) (sym w.step-is)
          (fixed_made rows d e caller n name c.args.landed _ _ _ _ _ landed row form c.in_ok-key.ensures deeds
          (where_none d c.args.landed name _ w.if-landed.false) of_rows stores reads)
    ]
