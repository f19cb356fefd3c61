use Rattle.std.proofs.Common.{ℕ, List, [], Option, unwrap_or, sym, ap, ◌∙◌}
use Rattle.spec_form.specs.declared.form.Field.{Field}
use Rattle.spec_form.specs.Form.{lines_in}
use Rattle.spec_form.proofs.FieldsLemmas.{lines_seen}
use Rattle.spec_form.proofs.fields.Fields.lines.Goals as goal

pub returns-in-Some : goal.returns-in-Some
returns-in-Some c =
    c.as_slice.ensures ∙ ap (λ (r : Option (List (List ℕ))). unwrap_or r []) c.in-Some.ensures.value
    ∙ sym (lines_seen c.args.name.now c.self.inside.by_name.entries) ∙ ap (λ (fields : List Field). lines_in fields c.args.name.now) c.self.view_is

pub returns-in-None : goal.returns-in-None
returns-in-None c =
    ap (λ (r : Option (List (List ℕ))). unwrap_or r []) c.in-None.ensures.value
    ∙ sym (lines_seen c.args.name.now c.self.inside.by_name.entries) ∙ ap (λ (fields : List Field). lines_in fields c.args.name.now) c.self.view_is
