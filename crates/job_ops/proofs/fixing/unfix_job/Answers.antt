use Rattle.std.proofs.Common.{◌∷◌, ◌++◌, [], sym, ap, ◌∙◌}
use Rattle.std.specs.Prelude.{codes}
use Rattle.depot_rows.specs.spec_form.Form.{with_field}
use Rattle.depot_rows.specs.table_changes.Changed.{rows_of}
use Rattle.depot_rows.specs.depot_model.Deeds.{FixForm}
use Rattle.depot_rows.specs.depot_model.Latest.{spec}
use Rattle.depot_rows.specs.declared.deed.Deed.TheVariants.{Spec}
use Rattle.depot_rows.specs.declared.deed.SpecKind.TheVariants.{Fix}
use Rattle.reply_rows.specs.declared.step.Step.{Step}
use Rattle.command_parts.proofs.Refused.{none_found}
use Rattle.job_ops.proofs.Stepping.{unfix_none, unfix_off, unfix_on, unfixed_made}
use Rattle.job_ops.proofs.fixing.unfix_job.Goals as goal

pub returns-in_default : goal.returns-in_default
returns-in_default c = λ d e sound has.
    unfix_none (rows_of c.args.tables.now) d e c.args.change c.args.name.now _
    (sym (none_found _ c.in_default.not-Some) ∙ c.in_ok-form.ensures d sound has ∙ ap (spec d FixForm) (c.as_bytes.ensures ∙ c.in_ok-key.ensures)) c.new.ensures

pub returns-then-not-is_on : goal.returns-then-not-is_on
returns-then-not-is_on c = λ d e sound has.
    unfix_off (rows_of c.args.tables.now) d e c.args.change c.args.name.now c.in-Some.form _
    (sym c.in-Some.is ∙ c.in_ok-form.ensures d sound has ∙ ap (spec d FixForm) (c.as_bytes.ensures ∙ c.in_ok-key.ensures))
    (sym c.is_on.ensures ∙ c.if-not-is_on.true) c.new-then-not-is_on.ensures

pub returns : goal.returns
returns c = λ d e sound has.
    let rows = rows_of c.args.tables.now in
    let n = c.args.change in
    let name = c.args.name.now in
    let form = c.in-Some.form in
    let told = c.in_ok-step.ensures in
    unfix_on rows d e n name form _ (sym c.in-Some.is ∙ c.in_ok-form.ensures d sound has ∙ ap (spec d FixForm) (c.as_bytes.ensures ∙ c.in_ok-key.ensures))
    (sym c.is_on.ensures ∙ c.if-not-is_on.false)
    (unfixed_made rows d e n name form c.in_ok-row.row c.in_ok-key.key _ c.in_ok-row.ensures c.in_ok-key.ensures
    (c.in_ok-save.ensures ∙ ap (λ (s : Step). s.deeds ++ Spec Fix c.in_ok-key.key (with_field (codes "State") (codes "off") form) ∷ []) told)
    (ap (λ (s : Step). s.rows) told) (ap (λ (s : Step). s.stores) told) (ap (λ (s : Step). s.reads) told))
