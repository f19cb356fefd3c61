use Rattle.std.proofs.Common.{ℕ, List, [], ◌∷◌, ◌++◌, map, ap, ◌∙◌}
use Rattle.std.specs.Prelude.{codes}
use Rattle.std.specs.List.{join_with_byte}
use Rattle.depot_rows.specs.spec_form.Form.{lines_of}
use Rattle.depot_rows.specs.depot_model.declared.reply.Field.{Field}
use Rattle.depot_rows.specs.depot_model.Rows.{row, text_field}
use Rattle.job_ops.proofs.JobRows.{fields_on}
use Rattle.job_ops.proofs.jobs.job_row.Goals as goal

pub returns : goal.returns
returns c =
    let form = c.args.form.now in
    c.row_of.ensures
    ∙ ap row
    (fields_on (map (text_field (codes "Job")) (lines_of form (codes "Job"))) (map (text_field (codes "Status")) (lines_of form (codes "Status")))
    (map (text_field (codes "User")) (lines_of form (codes "User"))) (text_field (codes "Description") (join_with_byte 0x0A (lines_of form (codes "Description"))))
    c.push_values.new.fields c.push_values-2.new.fields c.push_values-3.new.fields c.push.new.self
    (c.in_ok-push_values.ensures ∙ (λ i. c.new-fields.ensures i ++ map (text_field (codes "Job")) (c.lines.ensures i)))
    (c.in_ok-push_values-2.ensures ∙ ap (λ (l : List (List ℕ)). c.push_values.new.fields ++ map (text_field (codes "Status")) l) c.lines-2.ensures)
    (c.in_ok-push_values-3.ensures ∙ ap (λ (l : List (List ℕ)). c.push_values-2.new.fields ++ map (text_field (codes "User")) l) c.lines-3.ensures)
    (c.in_ok-push.ensures.ok ∙ ap (λ (f : Field). c.push_values-3.new.fields ++ f ∷ [])
    (c.in_ok-text_field.ensures ∙ ap (text_field (codes "Description")) (c.as_bytes.ensures ∙ c.in_ok-text.ensures ∙ ap (join_with_byte 0x0A) c.lines-4.ensures))))
