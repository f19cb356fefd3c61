use Rattle.std.proofs.Common.{List, Option, ◌++◌, ap, ◌∙◌}
use Rattle.depot_rows.specs.spec_form.Form.{FormValue}
use Rattle.depot_rows.specs.depot_model.declared.reply.Field.{Field}
use Rattle.shelf_ops.specs.Described.{form_fields}
use Rattle.shelf_ops.proofs.Described.{form_shown}
use Rattle.shelf_ops.proofs.describing.push_file.Goals as goal

pub returns : goal.returns
returns c = λ d sound has.
    let path = c.args.path.now in
    c.in_ok-push_form.ensures
    ∙ ap (λ (f : Option FormValue). c.args.fields.now ++ form_fields c.args.index path f) (c.as_ref.ensures.value ∙ c.in_ok-found.ensures d sound has)
    ∙ ap (λ (l : List Field). c.args.fields.now ++ l) (form_shown d sound c.args.change path c.args.index)
