use Rattle.std.proofs.Common.{◌∙◌}
use Rattle.depot_rows.specs.depot_model.Revisions.{revision}
use Rattle.opening_parts.proofs.RevisionTypes.{type_told}
use Rattle.integ_records.proofs.opened_targets.type_at.Goals as goal

pub returns : goal.returns
returns c = λ d has. c.in_ok-file_type.ensures ∙ type_told c.args.rev _ (revision d c.args.path.now c.args.rev) (c.in_ok-row.ensures d has)
