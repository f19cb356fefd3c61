use Rattle.std.proofs.Common.{◌≡◌, true, sym, ap, ◌∙◌}
use Rattle.spec_form.specs.Form.{FormValue, has_single, is_value}
use Rattle.spec_form.proofs.With.{with_reads_back}
use Rattle.spec_form.proofs.form.Form.with.Goals as goal

pub invariant_of-result : goal.invariant_of-result
invariant_of-result c =
    let form : FormValue = record { shape = c.self.inside.shape; fields = c.self.inside.fields } in
    let single : has_single c.args.field.now form ≡ true =
    ap (has_single c.args.field.now) c.self.view_is ∙ (rw (← c.as_bytes-name.ensures.value) (sym c.has_single.ensures ∙ c.if-not-has_single.false)) in
    let fits : is_value c.args.line.now ≡ true = sym c.is_value.ensures ∙ c.if-not-is_value.false in
    rw (c.in_ok-fields.ensures, c.as_bytes-name.ensures.value)
    (with_reads_back form c.args.field.now c.args.line.now c.self.invariant single fits)
