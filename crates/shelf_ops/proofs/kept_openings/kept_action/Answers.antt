use Rattle.std.proofs.Common.{ap, ◌∙◌}
use Rattle.depot_rows.specs.Deed.{action_of}
use Rattle.shelf_ops.specs.Unshelved.{word_action}
use Rattle.shelf_ops.proofs.Unshelved.{action_is}
use Rattle.shelf_ops.proofs.kept_openings.kept_action.Goals as goal

pub returns : goal.returns
returns c = ap action_of (c.action_in-action.ensures ∙ ap word_action c.form_value-word.ensures) ∙ action_is c.args.form.now
