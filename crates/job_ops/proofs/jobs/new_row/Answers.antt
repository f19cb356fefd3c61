use Rattle.std.proofs.Common.{List, [], ◌∷◌, ◌++◌, ap, ◌∙◌}
use Rattle.std.specs.Fmt.{digits}
use Rattle.std.specs.Prelude.{codes}
use Rattle.depot_rows.specs.depot_model.declared.reply.Field.{Field}
use Rattle.depot_rows.specs.depot_model.Rows.{row, text_field}
use Rattle.depot_rows.specs.depot_model.Steps.Changing.{default_text}
use Rattle.job_ops.proofs.jobs.new_row.Goals as goal

pub returns : goal.returns
unfolding digits
returns c =
    let first = c.in_ok-job.ensures ∙ ap (λ (l : List Field). l ++ text_field (codes "Job") (codes "new") ∷ []) c.new.ensures in
    let second = c.in_ok-status.ensures ∙ ap (λ (l : List Field). l ++ text_field (codes "Status") (codes "open") ∷ []) first in
    let third = c.in_ok-user.ensures ∙ (λ i. second i ++ text_field (codes "User") (c.as_bytes.ensures.value i) ∷ []) in
    c.row.ensures ∙ ap row (c.in_ok-text.ensures ∙ ap (λ (l : List Field). l ++ text_field (codes "Description0") default_text ∷ []) third)
