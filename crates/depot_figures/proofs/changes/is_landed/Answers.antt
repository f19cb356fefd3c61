use Rattle.std.proofs.Common.{◌∙◌}
use Rattle.std.specs.Option.{option_copied}
use Rattle.depot_figures.proofs.Figures.{landed_row}
use Rattle.depot_figures.proofs.changes.is_landed.Goals as goal

pub returns : goal.returns
returns c = λ d sound has. c.is_submitted.ensures ∙ landed_row d c.args.change (option_copied c.change_of-row.result) sound.landed_or_pending (c.change_of-row.ensures d has)
