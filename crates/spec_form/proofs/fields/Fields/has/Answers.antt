use Rattle.std.proofs.Common.{ap, ◌∙◌}
use Rattle.spec_form.specs.Form.{has_field}
use Rattle.spec_form.proofs.FieldsLemmas.{has_seen}
use Rattle.spec_form.proofs.fields.Fields.has.Goals as goal

pub returns : goal.returns
returns c =
    c.contains_key.ensures ∙ has_seen c.args.name.now c.self.inside.by_name.entries ∙ ap (has_field c.args.name.now) c.self.view_is
