use Rattle.std.proofs.Common.{◌≡◌, length}
use Rattle.spec_form.specs.Texts.{trimmed_end}
use Rattle.spec_form.proofs.cut.trim_end.Given as goal

abbrev pub invariant-loop-line : goal.invariant-loop-line
invariant-loop-line l = trimmed_end l.line ≡ trimmed_end l.initial.line

abbrev pub decreases-loop-line : goal.decreases-loop-line
decreases-loop-line l = length l.line
