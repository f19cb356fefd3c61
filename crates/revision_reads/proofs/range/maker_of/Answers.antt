use Rattle.std.proofs.Common.{◌∙◌}
use Rattle.depot_rows.specs.depot_model.Revisions.{revision}
use Rattle.revision_reads.proofs.Asked.{change_told}
use Rattle.revision_reads.proofs.range.maker_of.Goals as goal

pub returns : goal.returns
returns c = λ d has. c.change_in.ensures ∙ change_told c.args.rev _ (revision d c.args.path.now c.args.rev) (c.in_ok-row.ensures d has)
