use Rattle.std.proofs.Common.{ap, ◌∙◌}
use Rattle.std.specs.Prelude.{is_some}
use Rattle.shelf_ops.proofs.shelving.is_kept_in.Goals as goal

pub returns : goal.returns
returns c = λ d sound has. c.is_some.ensures ∙ ap is_some (c.in_ok-form.ensures d sound has)
