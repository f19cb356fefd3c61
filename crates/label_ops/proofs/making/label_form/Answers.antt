use Rattle.std.proofs.Common.{sym, ap, ◌∙◌}
use Rattle.std.specs.Prelude.{◌++◌, codes}
use Rattle.depot_rows.specs.depot_path.Name.{is_name}
use Rattle.label_ops.proofs.Made.{form_read}
use Rattle.label_ops.proofs.making.label_form.Goals as goal

pub returns-in-Ok : goal.returns-in-Ok
returns-in-Ok c =
    let bytes = c.as_bytes.ensures in
    form_read c.args.label.now _ c.in-Ok.form (ap is_name (sym bytes.value) ∙ bytes.named)
    (c.as_bytes-2.ensures ∙ c.in_ok-text.ensures ∙ (λ i. codes "Label:\t" ++ bytes.value i ++ codes "\n\n")) c.in-Ok.ensures.read
