use Rattle.std.proofs.Common.{◌≡◌, ℕ, List, [], ◌∷◌, ◌++◌, ap, ◌∙◌}
use Rattle.std.specs.Prelude.{codes, decimal}
use Rattle.std.specs.Option.{option_copied}
use Rattle.depot_rows.specs.depot_path.Path.{printed}
use Rattle.depot_rows.specs.spec_form.declared.form.Field.{Field}
use Rattle.depot_rows.specs.depot_model.Shelves.{content_fields, source_fields}
use Rattle.depot_rows.specs.depot_model.Values.{valued}
use Rattle.depot_rows.specs.Deed.{opening_of}
use Rattle.shelf_ops.specs.Forms.{fields_text, opened_fields, owner_fields}
use Rattle.shelf_ops.proofs.FormTexts.{fields_on}
use Rattle.shelf_ops.proofs.forms.kept_text.Goals as goal

pub returns : goal.returns
returns c =
    let o = opening_of c.args.opening.now in
    let file : List Field = valued (codes "Path") (printed o.path) ∷ valued (codes "Change") (decimal o.change) ∷ [] in
    let owner = owner_fields c.args.caller.now in
    let kind = opened_fields o in
    let source = source_fields o.source in
    let t1 = c.push_file.new.text in
    let t2 = c.push_owner.new.text in
    let t3 = c.push_opened.new.text in
    let t4 = c.push_source.new.text in
    let e1 : t1 ≡ [] ++ fields_text file = c.in_ok-push_file.ensures ∙ ap (λ (l : List ℕ). l ++ fields_text file) c.new-text.ensures in
    let e2 = fields_on [] t1 t2 file owner e1 c.in_ok-push_owner.ensures in
    let e3 = fields_on [] t2 t3 (file ++ owner) kind e2 c.in_ok-push_opened.ensures in
    let e4 = fields_on [] t3 t4 ((file ++ owner) ++ kind) source e3 c.in_ok-push_source.ensures in
    fields_on [] t4 c.push_content.new.text (((file ++ owner) ++ kind) ++ source) (content_fields (option_copied c.args.block)) e4 c.in_ok-push_content.ensures
