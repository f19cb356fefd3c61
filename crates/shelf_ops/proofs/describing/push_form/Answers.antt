use Rattle.std.proofs.Common.{ℕ, List, Option, [], ◌∷◌, ◌++◌, sym, ap, ◌∙◌}
use Rattle.std.specs.Prelude.{codes, decimal}
use Rattle.std.specs.Option.{option_copied}
use Rattle.depot_rows.specs.spec_form.Form.{FormValue}
use Rattle.depot_rows.specs.depot_model.Rows.{action_word, path_field, text_field}
use Rattle.depot_rows.specs.depot_model.Shelves.{kept_action}
use Rattle.depot_rows.specs.depot_model.Values.{value_of}
use Rattle.shelf_ops.specs.Described.{form_fields}
use Rattle.shelf_ops.proofs.Described.{three_pushed}
use Rattle.shelf_ops.proofs.describing.push_form.Goals as goal

pub returns-in_ok-push_text-in-Some-2 : goal.returns-in_ok-push_text-in-Some-2
returns-in_ok-push_text-in-Some-2 c =
    let k = c.args.index in
    let path = c.args.path.now in
    let form = c.in-Some.form.now in
    let f = c.args.fields.now in
    let f1 = c.push_path.new.fields in
    let f2 = c.push_text.new.fields in
    three_pushed f f1 f2 c.push_text-in-Some.new.fields (path_field (codes "depotFile" ++ decimal k) path) (text_field (codes "action" ++ decimal k) (action_word (kept_action form)))
    (text_field (codes "rev" ++ decimal k) (value_of form (codes "Base"))) c.in_ok-push_path-in-Some.ensures
    (c.in_ok-push_text-in-Some.ensures ∙ ap (λ (t : List ℕ). f1 ++ text_field (codes "action" ++ decimal k) t ∷ []) c.kept_word.ensures)
    (c.in_ok-push_text-in-Some-2.ensures ∙ ap (λ (t : List ℕ). f2 ++ text_field (codes "rev" ++ decimal k) t ∷ []) c.form_value.ensures)
    ∙ ap (λ (o : Option FormValue). f ++ form_fields k path o) (sym (ap option_copied c.in-Some.is))
