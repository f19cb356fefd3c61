use Rattle.std.proofs.Common.{◌∙◌}
use Rattle.file_openings.proofs.PlusBytes.{modifiers_behind}
use Rattle.file_openings.proofs.exclusive.modifiers.Goals as goal

pub returns : goal.returns
returns c = c.behind_plus.ensures ∙ modifiers_behind c.args.file_type.now
