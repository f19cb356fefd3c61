use Rattle.std.proofs.Common.{◌∙◌}
use Rattle.std.specs.Option.{option_copied}
use Rattle.depot_rows.specs.depot_model.Revisions.{revision}
use Rattle.depot_figures.proofs.Figures.{size_told}
use Rattle.depot_figures.proofs.files.size_at.Goals as goal

pub returns : goal.returns
returns c = λ d has. c.row_size-size.ensures ∙ size_told c.args.rev (option_copied c.in_ok-row.row) (revision d c.args.path.now c.args.rev) (c.in_ok-row.ensures d has)
