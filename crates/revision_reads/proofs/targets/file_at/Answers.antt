use Rattle.std.proofs.Common.{ap, ◌∙◌}
use Rattle.depot_rows.specs.depot_model.Steps.Adding.{first_live}
use Rattle.revision_reads.proofs.targets.file_at.Goals as goal

pub returns : goal.returns
returns c = λ d sound rev.
    c.in_ok-file.ensures d sound rev ∙ ap (first_live d) (c.as_slice.ensures ∙ c.in_ok-files.ensures.value)
