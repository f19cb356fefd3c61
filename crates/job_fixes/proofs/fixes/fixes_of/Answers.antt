use Rattle.std.proofs.Common.{◌∙◌}
use Rattle.job_fixes.proofs.FixRows.{of_change_are}
use Rattle.job_fixes.proofs.fixes.fixes_of.Goals as goal

pub returns : goal.returns
returns c = λ d sound has. c.in_ok-forms.ensures d sound has ∙ of_change_are d c.args.change
