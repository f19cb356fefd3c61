use Rattle.std.proofs.Common.{List, reverse, refl, sym, ap, ◌∙◌}
use Rattle.spec_form.specs.declared.form.Field.{Field}
use Rattle.spec_form.specs.Shapes.{kind_of}
use Rattle.spec_form.specs.Fields.{first_kind}
use Rattle.spec_form.proofs.FieldsLemmas.{last_kind}
use Rattle.spec_form.proofs.fields.Fields.last_kind.Goals as goal

pub returns : goal.returns
returns c =
    let last = c.in_ok-name.ensures in
    c.kind.ensures ∙ ap (kind_of c.args.shape) c.deref.ensures.value
    ∙ sym (last_kind c.args.shape c.self.inside.by_name.entries (c.in_ok-name.name.now, c.in_ok-name.field-0-1.now) (last.found.0 refl) (sym last.entry))
    ∙ ap (λ (fields : List Field). first_kind c.args.shape (reverse fields)) c.self.view_is
