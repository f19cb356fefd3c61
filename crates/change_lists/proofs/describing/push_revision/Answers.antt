use Rattle.std.proofs.Common.{ℕ, List, [], ◌∷◌, ◌++◌, ap, ◌∙◌}
use Rattle.std.specs.Prelude.{codes}
use Rattle.depot_rows.specs.depot_model.Rows.{number_field, text_field}
use Rattle.change_lists.specs.Describing.{content_fields, numbered_name}
use Rattle.change_lists.proofs.Described.{five_pushed}
use Rattle.change_lists.proofs.describing.push_revision.Goals as goal

pub returns : goal.returns
returns c =
    let k = c.args.index in
    let r = c.args.row.now in
    let f = c.args.fields.now in
    let f1 = c.push_text.new.fields in
    let f2 = c.push_text-2.new.fields in
    let f3 = c.push_text-3.new.fields in
    let f4 = c.push_number.new.fields in
    five_pushed f f1 f2 f3 f4 c.push_content.new.fields (text_field (numbered_name (codes "depotFile") k) r.path) (text_field (numbered_name (codes "action") k) r.action)
    (text_field (numbered_name (codes "type") k) r.file_type) (number_field (numbered_name (codes "rev") k) r.rev) (content_fields k r.digest r.length)
    (c.in_ok-push_text.ensures ∙ ap (λ (t : List ℕ). f ++ text_field (numbered_name (codes "depotFile") k) t ∷ []) c.as_bytes.ensures)
    (c.in_ok-push_text-2.ensures ∙ ap (λ (t : List ℕ). f1 ++ text_field (numbered_name (codes "action") k) t ∷ []) c.as_bytes-2.ensures)
    (c.in_ok-push_text-3.ensures ∙ ap (λ (t : List ℕ). f2 ++ text_field (numbered_name (codes "type") k) t ∷ []) c.as_bytes-3.ensures)
    (c.in_ok-push_number.ensures ∙ ap (λ (n : ℕ). f3 ++ number_field (numbered_name (codes "rev") k) n ∷ []) c.from.ensures)
    c.in_ok-push_content.ensures
