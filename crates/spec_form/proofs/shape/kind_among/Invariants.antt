use Rattle.std.proofs.Common.{◌≡◌, length}
use Rattle.spec_form.specs.Shapes.{seen_rows, kind_in}
use Rattle.spec_form.proofs.shape.kind_among.Given as goal

abbrev pub invariant-loop-rows : goal.invariant-loop-rows
invariant-loop-rows l = kind_in (seen_rows l.rows) l.name ≡ kind_in (seen_rows l.initial.rows) l.name

abbrev pub decreases-loop-rows : goal.decreases-loop-rows
decreases-loop-rows l = length l.rows
